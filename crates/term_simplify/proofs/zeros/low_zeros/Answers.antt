use Rattle.std.proofs.Common.{refl}
use Rattle.term_simplify.proofs.Reading.{operand}
use Rattle.term_simplify.proofs.ZeroReading.{number_zeros, plain_zeros, widened_zeros}
use Rattle.term_simplify.proofs.zeros.low_zeros.Goals as goal

pub joined_zeros-requires : goal.joined_zeros-requires
joined_zeros-requires c =
    (operand c.args.terms.now c.args.id _ _ c.node.ensures.fit c.in-Extend.ensures.is
    (c.node.ensures.fit.all_fit c.args.id _ c.in-Extend.ensures.is).0).there

pub returns-in-Num-clause-is : goal.returns-in-Num-clause-is
returns-in-Num-clause-is c = number_zeros c.args.terms.now c.args.id c.node.ensures.fit _ _ _ c.in-Num.ensures.is refl

pub returns-in-Extend-clause-is : goal.returns-in-Extend-clause-is
returns-in-Extend-clause-is c = widened_zeros c.args.terms.now c.args.id c.node.ensures.fit _ _ _ _ c.in-Extend.ensures.is c.joined_zeros.ensures.is

pub returns-in_default : goal.returns-in_default
returns-in_default c = record {
  is = plain_zeros c.args.terms.now c.args.id c.node.ensures.fit c.node.result _ c.node.ensures.is c.in_default.not-Num c.in_default.not-Extend
      c.joined_zeros-in_default.ensures.is;
  few = c.joined_zeros-in_default.ensures.few;
  fit = c.node.ensures.fit;
}
