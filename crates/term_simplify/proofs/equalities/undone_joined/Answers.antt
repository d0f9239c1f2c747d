use Rattle.std.proofs.Common.{◌∙◌, ◌-◌, ap, sym}
use Rattle.bv_dag.specs.BitVectors.{extract}
use Rattle.term_simplify.proofs.Reading.{has_term}
use Rattle.term_simplify.proofs.Telling.{lower_apart, lower_left, upper_apart, upper_left}
use Rattle.term_simplify.proofs.equalities.undone_joined.Goals as goal

pub width_of-width-requires : goal.width_of-width-requires
width_of-width-requires c = has_term c.args.terms.now c.args.b c.requires.fits.1

pub number_at-requires : goal.number_at-requires
number_at-requires c = has_term c.args.terms.now c.args.a c.requires.fits.0

pub number_at-requires-2 : goal.number_at-requires-2
number_at-requires-2 c = has_term c.args.terms.now c.args.b c.requires.fits.1

pub returns-then-number-clause-is : goal.returns-then-number-clause-is
returns-then-number-clause-is c =
    upper_left c.args.terms.now c.args.a c.args.b c.width_of-width.result c.args.n c.extracted.result c.extracted-2.result c.width_of-width.ensures.value
    (c.extracted.ensures ∙ ap (λ k. extract (k - 1) c.width_of-width.result c.args.n) c.width.ensures.value) c.extracted-2.ensures c.in-None-Some.y
    (sym c.in-None-Some.is-0 ∙ c.number_at.ensures.number) (sym c.in-None-Some.is-1 ∙ c.number_at-2.ensures.number)
    (sym c.number.ensures.value ∙ c.if-number.true ∙ c.number-in-None-Some.ensures.value)

pub returns-else-number-clause-is : goal.returns-else-number-clause-is
returns-else-number-clause-is c =
    lower_apart c.args.terms.now c.args.a c.args.b c.width_of-width.result c.args.n c.extracted.result c.extracted-2.result c.width_of-width.ensures.value
    (c.extracted.ensures ∙ ap (λ k. extract (k - 1) c.width_of-width.result c.args.n) c.width.ensures.value) c.extracted-2.ensures c.in-None-Some.y
    (sym c.in-None-Some.is-0 ∙ c.number_at.ensures.number) (sym c.in-None-Some.is-1 ∙ c.number_at-2.ensures.number)
    (λ e. c.if-number.false (c.number.ensures.value ∙ e ∙ sym c.number-in-None-Some.ensures.value))

pub returns-then-number-2-clause-is : goal.returns-then-number-2-clause-is
returns-then-number-2-clause-is c =
    lower_left c.args.terms.now c.args.a c.args.b c.width_of-width.result c.args.n c.extracted.result c.extracted-2.result c.width_of-width.ensures.value
    (c.extracted.ensures ∙ ap (λ k. extract (k - 1) c.width_of-width.result c.args.n) c.width.ensures.value) c.extracted-2.ensures c.in-Some-None.x
    (sym c.in-Some-None.is-0 ∙ c.number_at.ensures.number) (sym c.in-Some-None.is-1 ∙ c.number_at-2.ensures.number)
    (sym c.number-in-Some-None.ensures.value ∙ c.if-number-2.true ∙ c.number-in-Some-None-2.ensures.value)

pub returns-else-number-2-clause-is : goal.returns-else-number-2-clause-is
returns-else-number-2-clause-is c =
    upper_apart c.args.terms.now c.args.a c.args.b c.width_of-width.result c.args.n c.extracted.result c.extracted-2.result c.width_of-width.ensures.value
    (c.extracted.ensures ∙ ap (λ k. extract (k - 1) c.width_of-width.result c.args.n) c.width.ensures.value) c.extracted-2.ensures c.in-Some-None.x
    (sym c.in-Some-None.is-0 ∙ c.number_at.ensures.number) (sym c.in-Some-None.is-1 ∙ c.number_at-2.ensures.number)
    (λ e. c.if-number-2.false (c.number-in-Some-None.ensures.value ∙ e ∙ sym c.number-in-Some-None-2.ensures.value))
