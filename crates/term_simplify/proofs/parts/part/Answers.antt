use Rattle.std.proofs.Common.{arith, refl}
use Rattle.term_simplify.specs.Plans.{IsSpan}
use Rattle.term_simplify.proofs.PartPlans.{come_home, come_on, room_to_go}
use Rattle.term_simplify.proofs.Reading.{has_term}
use Rattle.term_simplify.proofs.parts.part.Goals as goal

pub loop-inner-init : goal.loop-inner-init
loop-inner-init c =
    let start : IsSpan c.args.terms.now (record { high = c.args.high; low = c.args.low; operand = c.args.operand }) = record {
      there = has_term c.args.terms.now c.args.operand (omega (arith, c.requires.1));
      order = c.requires.0;
      within = c.requires.1;
    } in
    record { is_span = start; same = refl; wide = omega arith; start = start }

pub stacked-above-requires : goal.stacked-above-requires
stacked-above-requires c =
    room_to_go c.args.terms.now c.within_operand.ensures.fit c.args.high c.args.low c.args.operand c.loop-inner.span c.loop-inner.above
    c.loop-inner.invariant c.in-Some.inner c.in-Some.ensures.some

pub loop-inner-preserved : goal.loop-inner-preserved
loop-inner-preserved c =
    come_on c.args.terms.now c.within_operand.ensures.fit c.args.high c.args.low c.args.operand c.loop-inner.span c.loop-inner.above
    c.loop-inner.invariant c.in-Some.inner c.in-Some.ensures.some c.stacked-above.result c.stacked-above.ensures

pub returns-clause-makes : goal.returns-clause-makes
returns-clause-makes c =
    come_home c.args.terms.now c.rest.ensures.fit c.args.high c.args.low c.args.operand c.loop-inner.span c.loop-inner.above
    c.loop-inner.invariant c.rest.result c.rest.ensures.makes c.in_default.ensures.none
