use Rattle.std.proofs.Common.{◌≡◌, ◌∙◌, arith, sym, Some}
use Rattle.std.proofs.lemmas.Bool.{and_parts, ltb-true}
use Rattle.std.specs.Prelude.{nat_lt}
use Rattle.bv_dag.specs.Graphs.{width_of}
use Rattle.term_trees.specs.Trees.{tree_of}
use Rattle.term_trees.proofs.TreeLaws.{width-tree_of}
use Rattle.term_simplify.specs.Plain.{tree_number}
use Rattle.term_simplify.specs.Simplified.{binary_of}
use Rattle.term_simplify.proofs.Moved.{by_others, by_term, moves_so, no_way, of_number}
use Rattle.term_simplify.proofs.MovedRules.{value-way}
use Rattle.term_simplify.proofs.Reading.{has_second_term, has_term}
use Rattle.term_simplify.proofs.Words.{number_width}
use Rattle.term_simplify.proofs.moves.move_by.Goals as goal

pub number_at-requires : goal.number_at-requires
number_at-requires c = has_term c.args.terms.now c.args.a c.requires.0

pub number_at-requires-2 : goal.number_at-requires-2
number_at-requires-2 c = has_second_term c.args.terms.now c.args.a c.args.b c.requires.0 c.requires.1

pub returns-in_default-clause-none : goal.returns-in_default-clause-none
unfolding binary_of
returns-in_default-clause-none c = λ none. no_way c.args.op _ _ _ _ (sym c.way_of.ensures ∙ c.in_default.is-2)

pub returns-in_default-2-clause-none : goal.returns-in_default-2-clause-none
unfolding binary_of
returns-in_default-2-clause-none c = λ none.
    rw (← c.number_at.ensures.number, c.in_default.is-0, ← c.number_at-2.ensures.number, c.in_default.is-1) (by_term c.args.op _ _)

pub returns-in_default-3-clause-none : goal.returns-in_default-3-clause-none
unfolding binary_of
returns-in_default-3-clause-none c = λ none.
    rw (← c.number_at.ensures.number, c.in_default.is-0) (of_number c.args.op _ _ _ _)

pub returns-then-not-moves-clause-none : goal.returns-then-not-moves-clause-none
unfolding binary_of
returns-then-not-moves-clause-none c = λ none.
    rw (← c.number_at.ensures.number, c.in-None-Some-Some.is-0, ← c.number_at-2.ensures.number, c.in-None-Some-Some.is-1)
    (by_others c.args.op c.in-None-Some-Some.y _ _ (sym c.moves.ensures ∙ c.if-not-moves.true))

pub returns-clause-some : goal.returns-clause-some
returns-clause-some c =
    let g = c.args.terms.now in
    let y = c.in-None-Some-Some.y in
    let (some, within) = and_parts (nat_lt 0 y.number) (nat_lt y.number y.width) (sym c.moves.ensures ∙ c.if-not-moves.false) in
    let number : tree_number (tree_of g c.args.b) ≡ Some y = sym c.number_at-2.ensures.number ∙ c.in-None-Some-Some.is-1 in
    let wide : y.width ≡ width_of g c.args.b = number_width (tree_of g c.args.b) y number ∙ width-tree_of g c.args.b in
    record {
      wide = c.requires.1 ∙ sym wide ∙ sym c.width.ensures.value;
      some = omega (arith, c.number.ensures.value, ltb-true 0 y.number some);
      within = omega (arith, c.number.ensures.value, c.width.ensures.value, ltb-true y.number y.width within);
    }

pub returns-clause-tree : goal.returns-clause-tree
unfolding binary_of
returns-clause-tree c =
    let y = c.in-None-Some-Some.y in
    rw (← c.number_at.ensures.number, c.in-None-Some-Some.is-0, ← c.number_at-2.ensures.number, c.in-None-Some-Some.is-1, c.width.ensures.value, c.number.ensures.value)
    (moves_so c.args.op c.in-None-Some-Some.way y _ _ (sym c.way_of.ensures ∙ c.in-None-Some-Some.is-2) (sym c.moves.ensures ∙ c.if-not-moves.false))

pub returns-clause-worth : goal.returns-clause-worth
returns-clause-worth c = λ input bytes term.
    let g = c.args.terms.now in
    let y = c.in-None-Some-Some.y in
    rw (c.width.ensures.value, c.number.ensures.value)
    (value-way g.inputs input bytes c.args.op c.in-None-Some-Some.way y (tree_of g c.args.a) (tree_of g c.args.b)
    (sym c.way_of.ensures ∙ c.in-None-Some-Some.is-2) (sym c.moves.ensures ∙ c.if-not-moves.false)
    term (sym c.number_at-2.ensures.number ∙ c.in-None-Some-Some.is-1))
