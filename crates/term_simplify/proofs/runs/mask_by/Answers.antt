use Rattle.std.proofs.Common.{◌≡◌, ◌∙◌, Some, ap, sym}
use Rattle.term_trees.specs.Trees.{tree_of}
use Rattle.term_simplify.specs.Plain.{tree_number}
use Rattle.term_simplify.specs.declared.runs.Mask.{Mask}
use Rattle.term_simplify.proofs.Multiplying.{wide_as}
use Rattle.term_simplify.proofs.Reading.{has_second_term, has_term}
use Rattle.term_simplify.proofs.RunSteps.{bits_of, first_worth, mask_is, second_worth}
use Rattle.term_simplify.proofs.runs.mask_by.Goals as goal

pub number_at-requires : goal.number_at-requires
number_at-requires c = has_term c.args.terms.now c.args.a c.requires.0

pub number_at-requires-2 : goal.number_at-requires-2
number_at-requires-2 c = has_second_term c.args.terms.now c.args.a c.args.b c.requires.0 c.requires.1

pub is_cut-requires-clause-mask : goal.is_cut-requires-clause-mask
is_cut-requires-clause-mask c = has_second_term c.args.terms.now c.args.a c.args.b c.requires.0 c.requires.1

pub is_cut-requires-clause-term : goal.is_cut-requires-clause-term
is_cut-requires-clause-term c = has_term c.args.terms.now c.args.a c.requires.0

pub is_cut-requires-in-Some-None-clause-mask : goal.is_cut-requires-in-Some-None-clause-mask
is_cut-requires-in-Some-None-clause-mask c = has_term c.args.terms.now c.args.a c.requires.0

pub is_cut-requires-in-Some-None-clause-term : goal.is_cut-requires-in-Some-None-clause-term
is_cut-requires-in-Some-None-clause-term c = has_second_term c.args.terms.now c.args.a c.args.b c.requires.0 c.requires.1

pub returns-then-is_cut-clause-some : goal.returns-then-is_cut-clause-some
returns-then-is_cut-clause-some c =
    let g = c.args.terms.now in
    let number : tree_number (tree_of g c.args.b) ≡ Some c.in-None-Some.y = sym c.number_at-2.ensures.number ∙ c.in-None-Some.is-1 in
    mask_is g c.args.a c.in-None-Some.y c.mask_of.result c.number_at.ensures.fit (has_term g c.args.a c.requires.0)
    (c.requires.1 ∙ wide_as g c.args.b c.in-None-Some.y number) c.mask_of.ensures.number c.mask_of.ensures.is

pub returns-then-is_cut-clause-worth : goal.returns-then-is_cut-clause-worth
returns-then-is_cut-clause-worth c =
    second_worth c.args.terms.now c.args.op c.args.a c.args.b c.in-None-Some.y c.mask_of.result
    (sym c.number_at-2.ensures.number ∙ c.in-None-Some.is-1) c.mask_of.ensures.is

pub returns-then-is_cut-clause-width : goal.returns-then-is_cut-clause-width
returns-then-is_cut-clause-width c =
    let g = c.args.terms.now in
    ap (λ (m : Mask). m.width) c.mask_of.ensures.is
    ∙ sym (c.requires.1 ∙ wide_as g c.args.b c.in-None-Some.y (sym c.number_at-2.ensures.number ∙ c.in-None-Some.is-1))

pub returns-then-is_cut-2-clause-some : goal.returns-then-is_cut-2-clause-some
returns-then-is_cut-2-clause-some c =
    let g = c.args.terms.now in
    let number : tree_number (tree_of g c.args.a) ≡ Some c.in-Some-None.x = sym c.number_at.ensures.number ∙ c.in-Some-None.is-0 in
    let made = c.mask_of-then-is_cut-2.ensures in
    mask_is g c.args.b c.in-Some-None.x c.mask_of-then-is_cut-2.result c.number_at.ensures.fit (has_second_term g c.args.a c.args.b c.requires.0 c.requires.1)
    (sym c.requires.1 ∙ wide_as g c.args.a c.in-Some-None.x number) made.number made.is

pub returns-then-is_cut-2-clause-worth : goal.returns-then-is_cut-2-clause-worth
returns-then-is_cut-2-clause-worth c =
    first_worth c.args.terms.now c.args.op c.args.a c.args.b c.in-Some-None.x c.mask_of-then-is_cut-2.result
    (bits_of c.args.op _ c.is_cut-in-Some-None.result c.is_cut-in-Some-None.ensures c.if-is_cut-2.true) c.requires.1
    (sym c.number_at.ensures.number ∙ c.in-Some-None.is-0) c.mask_of-then-is_cut-2.ensures.is

pub returns-then-is_cut-2-clause-width : goal.returns-then-is_cut-2-clause-width
returns-then-is_cut-2-clause-width c =
    let g = c.args.terms.now in
    ap (λ (m : Mask). m.width) c.mask_of-then-is_cut-2.ensures.is
    ∙ sym (wide_as g c.args.a c.in-Some-None.x (sym c.number_at.ensures.number ∙ c.in-Some-None.is-0))
