use Rattle.std.proofs.Common.{refl}
use Rattle.term_simplify.proofs.Words.{tests_unequal}
use Rattle.term_simplify.proofs.ComparisonPlans.{bit_by_width}
use Rattle.term_simplify.proofs.comparisons.bit_under.Goals as goal

pub returns-then-width_of-eq1-clause-tree : goal.returns-then-width_of-eq1-clause-tree
returns-then-width_of-eq1-clause-tree c =
    rw (
      bit_by_width c.args.terms.now c.args.id c.unwrap_or-narrow.result c.width_of.result
          c.under_zeros.result c.under_zeros.ensures.tree c.unwrap_or-narrow.ensures
          c.width_of.ensures.value,
      c.if-width_of-eq1.true,
    ) refl

pub returns-else-width_of-eq1-clause-tree : goal.returns-else-width_of-eq1-clause-tree
returns-else-width_of-eq1-clause-tree c =
    rw (
      bit_by_width c.args.terms.now c.args.id c.unwrap_or-narrow.result c.width_of.result
          c.under_zeros.result c.under_zeros.ensures.tree c.unwrap_or-narrow.ensures
          c.width_of.ensures.value,
      tests_unequal _ _ c.if-width_of-eq1.false,
    ) refl
