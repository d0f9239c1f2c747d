use Rattle.std.proofs.Common.{◌∙◌}
use Rattle.term_simplify.proofs.PairReading.{neg_numbered, not_numbered, numbered_here}
use Rattle.term_simplify.proofs.pairs.numbered_of.Goals as goal

pub returns-in-Not-clause-is : goal.returns-in-Not-clause-is
returns-in-Not-clause-is c = not_numbered c.args.terms.now c.args.id c.node.ensures.fit _ c.in-Not.ensures.is

pub returns-in-Neg-clause-is : goal.returns-in-Neg-clause-is
returns-in-Neg-clause-is c = neg_numbered c.args.terms.now c.args.id c.node.ensures.fit _ c.in-Neg.ensures.is

pub returns-in_default : goal.returns-in_default
returns-in_default c = record {
  fit = c.node.ensures.fit;
  some = c.wide_offset_of.ensures.some;
  is = c.wide_offset_of.ensures.is
      ∙ numbered_here c.args.terms.now c.args.id c.node.ensures.fit c.node.result c.node.ensures.is c.in_default.not-Not c.in_default.not-Neg;
}
