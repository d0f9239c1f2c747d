use Rattle.std.proofs.Common.{◌∙◌, true, ap, arith, subst}
use Rattle.term_simplify.specs.Ends.{AreEnds, by_sign, widened_ends}
use Rattle.term_simplify.proofs.EndsReading.{of_no_widened, of_signs, of_zeros, widened_fits}
use Rattle.term_simplify.proofs.Reading.{extended_width}
use Rattle.term_simplify.proofs.Telling.{widened_operand}
use Rattle.term_simplify.proofs.deciding.signed_ends_of.Goals as goal

pub ends_of-requires : goal.ends_of-requires
ends_of-requires c = (widened_operand c.args.terms.now c.args.id c.node.ensures.fit _ _ _ c.in-Extend.ensures.is).there

pub widened-requires-clause-at_most_64 : goal.widened-requires-clause-at_most_64
widened-requires-clause-at_most_64 c =
    omega (arith, widened_fits c.args.terms.now c.args.id c.node.ensures.fit _ _ _ c.in-Extend.ensures.is, c.by_sign.ensures.wide.least, c.ends_of.ensures.wide.least)

pub returns-then-signed-clause-is : goal.returns-then-signed-clause-is
returns-then-signed-clause-is c =
    let k = c.in-Extend in
    c.widened.ensures.is ∙ ap (widened_ends k.by true) (c.by_sign.ensures.is ∙ ap by_sign c.ends_of.ensures.is)
    ∙ of_signs c.args.terms.now c.args.id c.node.ensures.fit k.by k.signed k.operand k.ensures.is c.if-signed.true

pub returns-then-signed-clause-wide : goal.returns-then-signed-clause-wide
returns-then-signed-clause-wide c =
    let k = c.in-Extend in
    let wide = extended_width c.args.terms.now c.args.id k.by k.signed k.operand c.node.ensures.fit k.ensures.is in
    subst (λ w. AreEnds w c.widened.result) (omega (arith, wide, c.by_sign.ensures.wide.least, c.ends_of.ensures.wide.least)) c.widened.ensures.wide

pub returns-else-signed-clause-is : goal.returns-else-signed-clause-is
returns-else-signed-clause-is c =
    let k = c.in-Extend in
    c.by_sign-else-signed.ensures.is ∙ ap by_sign c.ends_of-else-signed.ensures.is
    ∙ of_zeros c.args.terms.now c.args.id c.node.ensures.fit k.by k.signed k.operand k.ensures.is c.if-signed.false

pub returns-in_default : goal.returns-in_default
returns-in_default c = record {
  is = c.by_sign-in_default.ensures.is ∙ ap by_sign c.ends_of-in_default.ensures.is
      ∙ of_no_widened c.args.terms.now c.args.id c.node.ensures.fit c.node.result c.node.ensures.is c.in_default.not-Extend;
  wide = subst (λ w. AreEnds w c.by_sign-in_default.result) c.ends_of-in_default.ensures.wide.least c.by_sign-in_default.ensures.wide;
  fit = c.node.ensures.fit;
}
