use Rattle.std.proofs.Common.{arith, refl}
use Rattle.term_simplify.proofs.PartPlans.{rest_by_width}
use Rattle.term_simplify.proofs.Reading.{Makes-same, has_bits}
use Rattle.term_simplify.proofs.Words.{most_false, most_true}
use Rattle.term_simplify.proofs.parts.rest.Goals as goal

pub zero-requires-clause-at_most_64 : goal.zero-requires-clause-at_most_64
zero-requires-clause-at_most_64 c =
    omega (
      arith,
      c.requires.within,
      c.requires.order,
      (has_bits c.args.terms.now
          c.args.span.operand c.under_zeros.ensures.fit c.requires.there).1,
    )

pub returns-then-width_of-span-clause-makes : goal.returns-then-width_of-span-clause-makes
returns-then-width_of-span-clause-makes c =
    Makes-same c.args.terms.now _ _ _ (c.number.ensures c.args.terms.now)
    (rw (
      rest_by_width c.args.terms.now c.args.span.operand c.in-Some.narrow c.width_of.result
          c.args.span.high c.args.span.low c.under_zeros.result c.in-Some.is
          c.under_zeros.ensures.tree c.width_of.ensures.value,
      most_true _ _ c.if-width_of-span.true,
      c.zero.ensures,
    ) refl)

pub returns-else-width_of-span-clause-makes : goal.returns-else-width_of-span-clause-makes
returns-else-width_of-span-clause-makes c =
    Makes-same c.args.terms.now _ _ _ c.span_plan.ensures
    (rw (
      rest_by_width c.args.terms.now c.args.span.operand c.in-Some.narrow c.width_of.result
          c.args.span.high c.args.span.low c.under_zeros.result c.in-Some.is
          c.under_zeros.ensures.tree c.width_of.ensures.value,
      most_false _ _
          c.if-width_of-span.false,
    ) refl)
