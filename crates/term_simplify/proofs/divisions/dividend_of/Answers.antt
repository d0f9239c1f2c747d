use Rattle.std.proofs.Common.{◌≡◌, ◌∙◌, Some, sym}
use Rattle.term_trees.specs.Trees.{tree_of}
use Rattle.term_simplify.specs.Plain.{tree_number}
use Rattle.term_simplify.proofs.DivisionSteps.{dividend_is, dividend_wide, dividend_worth}
use Rattle.term_simplify.proofs.Multiplying.{wide_as}
use Rattle.term_simplify.proofs.Reading.{has_second_term, has_term}
use Rattle.term_simplify.proofs.divisions.dividend_of.Goals as goal

pub number_at-requires : goal.number_at-requires
number_at-requires c = has_term c.args.terms.now c.args.a c.requires.0

pub number_at-requires-2 : goal.number_at-requires-2
number_at-requires-2 c = has_second_term c.args.terms.now c.args.a c.args.b c.requires.0 c.requires.1

pub returns-in-None-Some-clause-some : goal.returns-in-None-Some-clause-some
returns-in-None-Some-clause-some c =
    let g = c.args.terms.now in
    let number : tree_number (tree_of g c.args.b) ≡ Some c.in-None-Some.y = sym c.number_at-2.ensures.number ∙ c.in-None-Some.is-1 in
    let made = c.dividend_by.ensures in
    dividend_is g c.args.a c.in-None-Some.y c.dividend_by.result (c.requires.1 ∙ wide_as g c.args.b c.in-None-Some.y number) made.number made.some made.is

pub returns-in-None-Some-clause-worth : goal.returns-in-None-Some-clause-worth
returns-in-None-Some-clause-worth c =
    dividend_worth c.args.terms.now c.args.op c.args.a c.args.b c.in-None-Some.y c.dividend_by.result
    (sym c.number_at-2.ensures.number ∙ c.in-None-Some.is-1) c.dividend_by.ensures.is

pub returns-in-None-Some-clause-width : goal.returns-in-None-Some-clause-width
returns-in-None-Some-clause-width c =
    let g = c.args.terms.now in
    let number : tree_number (tree_of g c.args.b) ≡ Some c.in-None-Some.y = sym c.number_at-2.ensures.number ∙ c.in-None-Some.is-1 in
    dividend_wide c.in-None-Some.y c.args.a _ c.dividend_by.result (sym (c.requires.1 ∙ wide_as g c.args.b c.in-None-Some.y number)) c.dividend_by.ensures.is
