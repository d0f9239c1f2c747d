use Rattle.std.proofs.Common.{◌∙◌, ap, arith, sym}
use Rattle.term_simplify.specs.Narrowing.{is_zero}
use Rattle.term_simplify.proofs.Reading.{operand}
use Rattle.term_simplify.proofs.ZeroReading.{none_below, unjoined_zeros, zeros_below}
use Rattle.term_simplify.proofs.zeros.joined_zeros.Goals as goal

pub returns-in_default : goal.returns-in_default
returns-in_default c = record {
  is = unjoined_zeros c.args.terms.now c.args.id c.node.ensures.fit c.node.result c.node.ensures.is c.in_default.not-Concat;
  few = omega arith;
  fit = c.node.ensures.fit;
}

pub number_at-requires : goal.number_at-requires
number_at-requires c =
    (operand c.args.terms.now c.args.id c.in-Concat.low _ c.in-Concat.ensures.fit c.in-Concat.ensures.is
    (c.in-Concat.ensures.fit.all_fit c.args.id _ c.in-Concat.ensures.is).1).there

pub width_of-requires : goal.width_of-requires
width_of-requires c =
    (operand c.args.terms.now c.args.id c.in-Concat.low _ c.in-Concat.ensures.fit c.in-Concat.ensures.is
    (c.in-Concat.ensures.fit.all_fit c.args.id _ c.in-Concat.ensures.is).1).there

pub returns-then-is_zero-clause-is : goal.returns-then-is_zero-clause-is
returns-then-is_zero-clause-is c =
    zeros_below c.args.terms.now c.args.id c.in-Concat.ensures.fit c.in-Concat.high c.in-Concat.low c.width_of.result c.in-Concat.ensures.is
    (ap is_zero (sym c.number_at.ensures.number) ∙ sym c.is_zero.ensures ∙ c.if-is_zero.true) c.width_of.ensures.value

pub returns-else-is_zero-clause-is : goal.returns-else-is_zero-clause-is
returns-else-is_zero-clause-is c =
    none_below c.args.terms.now c.args.id c.in-Concat.ensures.fit c.in-Concat.high c.in-Concat.low c.in-Concat.ensures.is
    (ap is_zero (sym c.number_at.ensures.number) ∙ sym c.is_zero.ensures ∙ c.if-is_zero.false)
