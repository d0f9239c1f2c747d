use Rattle.std.proofs.Common.{sym, ◌∙◌}
use Rattle.term_simplify.proofs.Multiplying.{first_worth, product_is, product_wide, second_worth, wide_as}
use Rattle.term_simplify.proofs.Reading.{has_second_term, has_term}
use Rattle.term_simplify.proofs.times.product_by.Goals as goal

pub number_at-requires : goal.number_at-requires
number_at-requires c = has_term c.args.terms.now c.args.a c.requires.0

pub number_at-requires-2 : goal.number_at-requires-2
number_at-requires-2 c = has_second_term c.args.terms.now c.args.a c.args.b c.requires.0 c.requires.1

pub returns-in-Mul-Some-None-clause-some : goal.returns-in-Mul-Some-None-clause-some
returns-in-Mul-Some-None-clause-some c =
    let made = c.product_with.ensures in
    let wide = wide_as c.args.terms.now c.args.a c.in-Mul-Some-None.x (sym c.number_at.ensures.number ∙ c.in-Mul-Some-None.is-1) in
    product_is c.args.terms.now c.args.b c.in-Mul-Some-None.x c.product_with.result (sym c.requires.1 ∙ wide) made.in_range made.at_most_64 made.some made.is

pub returns-in-Mul-Some-None-clause-worth : goal.returns-in-Mul-Some-None-clause-worth
returns-in-Mul-Some-None-clause-worth c =
    first_worth c.args.terms.now c.args.op c.args.a c.args.b c.in-Mul-Some-None.x c.product_with.result c.in-Mul-Some-None.is-0
    (sym c.number_at.ensures.number ∙ c.in-Mul-Some-None.is-1) c.product_with.ensures.is

pub returns-in-Mul-Some-None-clause-width : goal.returns-in-Mul-Some-None-clause-width
returns-in-Mul-Some-None-clause-width c =
    product_wide c.args.b c.in-Mul-Some-None.x _ c.product_with.result
    (sym (wide_as c.args.terms.now c.args.a c.in-Mul-Some-None.x (sym c.number_at.ensures.number ∙ c.in-Mul-Some-None.is-1))) c.product_with.ensures.is

pub returns-in-Mul-None-Some-clause-some : goal.returns-in-Mul-None-Some-clause-some
returns-in-Mul-None-Some-clause-some c =
    let made = c.product_with-in-Mul-None-Some.ensures in
    let wide = wide_as c.args.terms.now c.args.b c.in-Mul-None-Some.y (sym c.number_at-2.ensures.number ∙ c.in-Mul-None-Some.is-2) in
    product_is c.args.terms.now c.args.a c.in-Mul-None-Some.y c.product_with-in-Mul-None-Some.result (c.requires.1 ∙ wide) made.in_range made.at_most_64 made.some made.is

pub returns-in-Mul-None-Some-clause-worth : goal.returns-in-Mul-None-Some-clause-worth
returns-in-Mul-None-Some-clause-worth c =
    second_worth c.args.terms.now c.args.op c.args.a c.args.b c.in-Mul-None-Some.y c.product_with-in-Mul-None-Some.result c.in-Mul-None-Some.is-0 c.requires.1
    (sym c.number_at-2.ensures.number ∙ c.in-Mul-None-Some.is-2) c.product_with-in-Mul-None-Some.ensures.is

pub returns-in-Mul-None-Some-clause-width : goal.returns-in-Mul-None-Some-clause-width
returns-in-Mul-None-Some-clause-width c =
    product_wide c.args.a c.in-Mul-None-Some.y _ c.product_with-in-Mul-None-Some.result
    (sym (c.requires.1 ∙ wide_as c.args.terms.now c.args.b c.in-Mul-None-Some.y (sym c.number_at-2.ensures.number ∙ c.in-Mul-None-Some.is-2)))
    c.product_with-in-Mul-None-Some.ensures.is
