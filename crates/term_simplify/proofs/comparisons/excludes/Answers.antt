use Rattle.term_simplify.proofs.ComparisonPlans.{excludes_by_width}
use Rattle.std.proofs.Common.{arith}
use Rattle.term_simplify.proofs.comparisons.excludes.Goals as goal

pub overflow_shl-result : goal.overflow_shl-result
overflow_shl-result c = omega (arith, c.in-Some.ensures.below_64, c.width_of.ensures.value)

pub returns-in-Some : goal.returns-in-Some
returns-in-Some c =
    excludes_by_width c.args.terms.now c.args.id c.in-Some.narrow c.width_of.result c.args.value
    c.under_zeros.result c.in-Some.is c.under_zeros.ensures.tree c.width_of.ensures.value
    (omega (arith, c.in-Some.ensures.below_64, c.width_of.ensures.value))
