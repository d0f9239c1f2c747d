use Rattle.term_simplify.proofs.OffsetReading.{neg_under, neg_wide, no_negative}
use Rattle.term_simplify.proofs.offsets.under_negative.Goals as goal

pub returns-in-Neg-clause-tree : goal.returns-in-Neg-clause-tree
returns-in-Neg-clause-tree c = neg_under c.args.terms.now c.args.id c.node.ensures.fit c.in-Neg.term c.in-Neg.ensures.is

pub returns-in-Neg-clause-wide : goal.returns-in-Neg-clause-wide
returns-in-Neg-clause-wide c = neg_wide c.args.terms.now c.args.id c.node.ensures.fit c.in-Neg.term c.in-Neg.ensures.is

pub returns-in_default : goal.returns-in_default
returns-in_default c = record {
  tree = no_negative c.args.terms.now c.args.id c.node.ensures.fit c.node.result c.node.ensures.is c.in_default.not-Neg;
  wide = tt;
}
