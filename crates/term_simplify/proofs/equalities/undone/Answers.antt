use Rattle.std.proofs.Common.{◌<◌, arith, ap, length, subst, sym}
use Rattle.term_trees.specs.Trees.{tree_of}
use Rattle.term_simplify.specs.declared.equalities.Equality.{Equality}
use Rattle.term_simplify.proofs.Telling.{either, first_operand, first_wide, if_some, joined_fit, joined_wide, lower_operand, neg_operand, not_operand, operands_fit, other_here, second_operand, undone_here, upper_operand, widened_more, widened_operand, widened_wide, with_word}
use Rattle.term_simplify.proofs.equalities.undone.Goals as goal

pub undone_by-requires-clause-fits : goal.undone_by-requires-clause-fits
undone_by-requires-clause-fits c = operands_fit c.args.terms.now c.args.e.term c.node.ensures.fit _ _ _ c.in-Binary.ensures.is

pub undone_by-requires-clause-wide : goal.undone_by-requires-clause-wide
undone_by-requires-clause-wide c = first_wide c.args.terms.now c.args.e.term c.node.ensures.fit _ _ _ _ c.in-Binary.ensures.is c.requires.number

pub returns-in-Not-clause-is : goal.returns-in-Not-clause-is
returns-in-Not-clause-is c =
    undone_here c.args.terms.now c.args.e.term c.node.ensures.fit c.args.e.number _ c.in-Not.ensures.is
    (ap (with_word (tree_of c.args.terms.now c.in-Not.term)) c.complement.ensures)

pub returns-in-Not-clause-there : goal.returns-in-Not-clause-there
returns-in-Not-clause-there c = (not_operand c.args.terms.now c.args.e.term c.node.ensures.fit _ c.in-Not.ensures.is).there

pub returns-in-Not-clause-earlier : goal.returns-in-Not-clause-earlier
returns-in-Not-clause-earlier c = (not_operand c.args.terms.now c.args.e.term c.node.ensures.fit _ c.in-Not.ensures.is).earlier

pub returns-in-Neg-clause-is : goal.returns-in-Neg-clause-is
returns-in-Neg-clause-is c =
    undone_here c.args.terms.now c.args.e.term c.node.ensures.fit c.args.e.number _ c.in-Neg.ensures.is
    (ap (with_word (tree_of c.args.terms.now c.in-Neg.term)) c.negated.ensures)

pub returns-in-Neg-clause-there : goal.returns-in-Neg-clause-there
returns-in-Neg-clause-there c = (neg_operand c.args.terms.now c.args.e.term c.node.ensures.fit _ c.in-Neg.ensures.is).there

pub returns-in-Neg-clause-earlier : goal.returns-in-Neg-clause-earlier
returns-in-Neg-clause-earlier c = (neg_operand c.args.terms.now c.args.e.term c.node.ensures.fit _ c.in-Neg.ensures.is).earlier

pub returns-in-Binary-clause-is : goal.returns-in-Binary-clause-is
returns-in-Binary-clause-is c =
    undone_here c.args.terms.now c.args.e.term c.node.ensures.fit c.args.e.number _ c.in-Binary.ensures.is c.undone_by.ensures.is

pub returns-in-Binary-clause-there : goal.returns-in-Binary-clause-there
returns-in-Binary-clause-there c =
    let first = first_operand c.args.terms.now c.args.e.term c.node.ensures.fit _ _ _ c.in-Binary.ensures.is in
    let second = second_operand c.args.terms.now c.args.e.term c.node.ensures.fit _ _ _ c.in-Binary.ensures.is in
    if_some _ _ (λ (f : Equality). f.term < length c.args.terms.now.nodes) c.undone_by.ensures.there
    (λ f at. either (λ k. k < length c.args.terms.now.nodes) f.term _ _ at first.there second.there)

pub returns-in-Binary-clause-earlier : goal.returns-in-Binary-clause-earlier
returns-in-Binary-clause-earlier c =
    let first = first_operand c.args.terms.now c.args.e.term c.node.ensures.fit _ _ _ c.in-Binary.ensures.is in
    let second = second_operand c.args.terms.now c.args.e.term c.node.ensures.fit _ _ _ c.in-Binary.ensures.is in
    if_some _ _ (λ (f : Equality). f.term < c.args.e.term) c.undone_by.ensures.there
    (λ f at. either (λ k. k < c.args.e.term) f.term _ _ at first.earlier second.earlier)

pub undone_widened-requires-clause-there : goal.undone_widened-requires-clause-there
undone_widened-requires-clause-there c = (widened_operand c.args.terms.now c.args.e.term c.node.ensures.fit _ _ _ c.in-Extend.ensures.is).there

pub undone_widened-requires-clause-some : goal.undone_widened-requires-clause-some
undone_widened-requires-clause-some c = widened_more c.args.terms.now c.args.e.term c.node.ensures.fit _ _ _ c.in-Extend.ensures.is

pub undone_widened-requires-clause-wide : goal.undone_widened-requires-clause-wide
undone_widened-requires-clause-wide c = widened_wide c.args.terms.now c.args.e.term c.node.ensures.fit _ _ _ _ c.in-Extend.ensures.is c.requires.number

pub undone_widened-requires-clause-at_most_64 : goal.undone_widened-requires-clause-at_most_64
undone_widened-requires-clause-at_most_64 c = omega (arith, c.requires.number.width, c.requires.number.at_most_64)

pub returns-in-Extend-clause-is : goal.returns-in-Extend-clause-is
returns-in-Extend-clause-is c =
    undone_here c.args.terms.now c.args.e.term c.node.ensures.fit c.args.e.number _ c.in-Extend.ensures.is c.undone_widened.ensures.is

pub returns-in-Extend-clause-there : goal.returns-in-Extend-clause-there
returns-in-Extend-clause-there c =
    let inner = widened_operand c.args.terms.now c.args.e.term c.node.ensures.fit _ _ _ c.in-Extend.ensures.is in
    if_some _ _ (λ (f : Equality). f.term < length c.args.terms.now.nodes) c.undone_widened.ensures.there
    (λ f at. subst (λ k. k < length c.args.terms.now.nodes) (sym at) inner.there)

pub returns-in-Extend-clause-earlier : goal.returns-in-Extend-clause-earlier
returns-in-Extend-clause-earlier c =
    let inner = widened_operand c.args.terms.now c.args.e.term c.node.ensures.fit _ _ _ c.in-Extend.ensures.is in
    if_some _ _ (λ (f : Equality). f.term < c.args.e.term) c.undone_widened.ensures.there
    (λ f at. subst (λ k. k < c.args.e.term) (sym at) inner.earlier)

pub undone_joined-requires-clause-fits : goal.undone_joined-requires-clause-fits
undone_joined-requires-clause-fits c = joined_fit c.args.terms.now c.args.e.term c.node.ensures.fit _ _ c.in-Concat.ensures.is

pub undone_joined-requires-clause-wide : goal.undone_joined-requires-clause-wide
undone_joined-requires-clause-wide c = joined_wide c.args.terms.now c.args.e.term c.node.ensures.fit _ _ _ c.in-Concat.ensures.is c.requires.number

pub returns-in-Concat-clause-is : goal.returns-in-Concat-clause-is
returns-in-Concat-clause-is c =
    undone_here c.args.terms.now c.args.e.term c.node.ensures.fit c.args.e.number _ c.in-Concat.ensures.is c.undone_joined.ensures.is

pub returns-in-Concat-clause-there : goal.returns-in-Concat-clause-there
returns-in-Concat-clause-there c =
    let first = upper_operand c.args.terms.now c.args.e.term c.node.ensures.fit _ _ c.in-Concat.ensures.is in
    let second = lower_operand c.args.terms.now c.args.e.term c.node.ensures.fit _ _ c.in-Concat.ensures.is in
    if_some _ _ (λ (f : Equality). f.term < length c.args.terms.now.nodes) c.undone_joined.ensures.there
    (λ f at. either (λ k. k < length c.args.terms.now.nodes) f.term _ _ at first.there second.there)

pub returns-in-Concat-clause-earlier : goal.returns-in-Concat-clause-earlier
returns-in-Concat-clause-earlier c =
    let first = upper_operand c.args.terms.now c.args.e.term c.node.ensures.fit _ _ c.in-Concat.ensures.is in
    let second = lower_operand c.args.terms.now c.args.e.term c.node.ensures.fit _ _ c.in-Concat.ensures.is in
    if_some _ _ (λ (f : Equality). f.term < c.args.e.term) c.undone_joined.ensures.there
    (λ f at. either (λ k. k < c.args.e.term) f.term _ _ at first.earlier second.earlier)

pub returns-in_default : goal.returns-in_default
returns-in_default c = record {
  is = other_here c.args.terms.now c.args.e.term c.node.ensures.fit c.args.e.number c.node.result c.node.ensures.is
      c.in_default.not-Not c.in_default.not-Neg c.in_default.not-Binary c.in_default.not-Extend c.in_default.not-Concat;
  there = tt;
  earlier = tt;
  fit = c.node.ensures.fit;
}
