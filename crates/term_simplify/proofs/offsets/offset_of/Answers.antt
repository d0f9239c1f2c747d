use Rattle.std.proofs.Common.{◌∙◌, ap, arith, subst}
use Rattle.std.proofs.lemmas.Nat.{pow_pos}
use Rattle.bv_dag.specs.BitVectors.{BitVector}
use Rattle.term_simplify.specs.Offsets.{IsSummand}
use Rattle.term_simplify.proofs.JointReading.{if_some}
use Rattle.term_simplify.proofs.OffsetReading.{neg_offset, neg_wide, no_offset, not_offset, not_wide, summand_of, two_offset, two_wide}
use Rattle.term_simplify.proofs.Telling.{neg_operand, not_operand, operands_fit}
use Rattle.term_simplify.proofs.offsets.offset_of.Goals as goal

pub offset_by-requires : goal.offset_by-requires
offset_by-requires c = operands_fit c.args.terms.now c.args.id c.node.ensures.fit _ _ _ c.in-Binary.ensures.is

pub returns-in-Not-clause-is : goal.returns-in-Not-clause-is
returns-in-Not-clause-is c =
    not_offset c.args.terms.now c.args.id c.node.ensures.fit c.in-Not.term _ c.ones.result c.in-Not.ensures.is c.width_of-width.ensures.value c.ones.ensures

pub returns-in-Not-clause-some : goal.returns-in-Not-clause-some
returns-in-Not-clause-some c =
    let g = c.args.terms.now in
    let width = c.width_of-width.ensures in
    summand_of g c.args.id c.in-Not.term _ _ c.ones.result (not_operand g c.args.id c.node.ensures.fit _ c.in-Not.ensures.is).there
    (not_wide g c.args.id c.node.ensures.fit _ c.in-Not.ensures.is) width.value width.not_empty width.at_most_64
    (ap (λ (x : BitVector). x.width) c.ones.ensures)
    (omega (arith, ap (λ (x : BitVector). x.number) c.ones.ensures, pow_pos c.width_of-width.result))

pub returns-in-Neg-clause-is : goal.returns-in-Neg-clause-is
returns-in-Neg-clause-is c =
    neg_offset c.args.terms.now c.args.id c.node.ensures.fit c.in-Neg.term _ c.zero.result c.in-Neg.ensures.is c.width_of-width.ensures.value c.zero.ensures

pub returns-in-Neg-clause-some : goal.returns-in-Neg-clause-some
returns-in-Neg-clause-some c =
    let g = c.args.terms.now in
    let width = c.width_of-width.ensures in
    summand_of g c.args.id c.in-Neg.term _ _ c.zero.result (neg_operand g c.args.id c.node.ensures.fit _ c.in-Neg.ensures.is).there
    (neg_wide g c.args.id c.node.ensures.fit _ c.in-Neg.ensures.is) width.value width.not_empty width.at_most_64
    (ap (λ (x : BitVector). x.width) c.zero.ensures)
    (omega (arith, ap (λ (x : BitVector). x.number) c.zero.ensures, pow_pos c.width_of-width.result))

pub returns-in-Binary-clause-is : goal.returns-in-Binary-clause-is
returns-in-Binary-clause-is c = c.offset_by.ensures.is ∙ two_offset c.args.terms.now c.args.id c.node.ensures.fit _ _ _ c.in-Binary.ensures.is

pub returns-in-Binary-clause-some : goal.returns-in-Binary-clause-some
returns-in-Binary-clause-some c =
    if_some _ _ _ c.offset_by.ensures.some (λ o is. subst (λ w. IsSummand c.args.terms.now w o)
    (two_wide c.args.terms.now c.args.id c.node.ensures.fit _ _ _ c.in-Binary.ensures.is) is)

pub returns-in_default : goal.returns-in_default
returns-in_default c = record {
  some = tt;
  is = no_offset c.args.terms.now c.args.id c.node.ensures.fit c.node.result c.node.ensures.is
      c.in_default.not-Not c.in_default.not-Neg c.in_default.not-Binary;
}
