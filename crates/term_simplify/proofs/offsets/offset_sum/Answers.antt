use Rattle.std.proofs.Common.{◌∙◌, subst, sym}
use Rattle.term_simplify.specs.WideSums.{IsWideSummand}
use Rattle.term_simplify.proofs.JointReading.{if_some}
use Rattle.term_simplify.proofs.Reading.{has_second_term, has_term}
use Rattle.term_simplify.proofs.Telling.{number_at_second}
use Rattle.term_simplify.proofs.offsets.offset_sum.Goals as goal

pub number_at-requires : goal.number_at-requires
number_at-requires c = has_term c.args.terms.now c.args.a c.requires.0

pub number_at-requires-2 : goal.number_at-requires-2
number_at-requires-2 c = has_second_term c.args.terms.now c.args.a c.args.b c.requires.0 c.requires.1

pub wide_offset_of-requires : goal.wide_offset_of-requires
wide_offset_of-requires c = has_term c.args.terms.now c.args.a c.requires.0

pub wide_offset_of-requires-in-Some-None : goal.wide_offset_of-requires-in-Some-None
wide_offset_of-requires-in-Some-None c = has_second_term c.args.terms.now c.args.a c.args.b c.requires.0 c.requires.1

pub second_offset-requires : goal.second_offset-requires
second_offset-requires c =
    let g = c.args.terms.now in
    let y = number_at_second g c.number_at.ensures.fit c.args.a c.args.b c.in-None-Some.y (has_term g c.args.a c.requires.0)
    (has_second_term g c.args.a c.args.b c.requires.0 c.requires.1) c.requires.1 (sym c.number_at-2.ensures.number ∙ c.in-None-Some.is-1) in
    c.in-Some.ensures.some.number.width ∙ sym y.number.width

pub first_offset-requires : goal.first_offset-requires
first_offset-requires c =
    let g = c.args.terms.now in
    let x = number_at_second g c.number_at.ensures.fit c.args.b c.args.a c.in-Some-None.x (has_second_term g c.args.a c.args.b c.requires.0 c.requires.1)
    (has_term g c.args.a c.requires.0) (sym c.requires.1) (sym c.number_at.ensures.number ∙ c.in-Some-None.is-0) in
    x.number.width ∙ sym c.in-Some-wide_offset_of.ensures.some.number.width

pub returns-in-Some-clause-some : goal.returns-in-Some-clause-some
returns-in-Some-clause-some c =
    let g = c.args.terms.now in
    let y = number_at_second g c.number_at.ensures.fit c.args.a c.args.b c.in-None-Some.y (has_term g c.args.a c.requires.0)
    (has_second_term g c.args.a c.args.b c.requires.0 c.requires.1) c.requires.1 (sym c.number_at-2.ensures.number ∙ c.in-None-Some.is-1) in
    c.second_offset.ensures.some g _ c.in-Some.ensures.some y.number

pub returns-in-Some-wide_offset_of-clause-some : goal.returns-in-Some-wide_offset_of-clause-some
returns-in-Some-wide_offset_of-clause-some c =
    let g = c.args.terms.now in
    let x = number_at_second g c.number_at.ensures.fit c.args.b c.args.a c.in-Some-None.x (has_second_term g c.args.a c.args.b c.requires.0 c.requires.1)
    (has_term g c.args.a c.requires.0) (sym c.requires.1) (sym c.number_at.ensures.number ∙ c.in-Some-None.is-0) in
    if_some _ _ _ (c.first_offset.ensures.some g _ c.in-Some-wide_offset_of.ensures.some x.number) (λ o is. subst (λ w. IsWideSummand g w o) (sym c.requires.1) is)
