use Rattle.std.proofs.Common.{◌∙◌, sym}
use Rattle.term_trees.specs.Trees.{tree_of}
use Rattle.term_simplify.proofs.Reading.{has_second_term, has_term}
use Rattle.term_simplify.proofs.Telling.{numbers_stay, stays}
use Rattle.term_simplify.proofs.equalities.told_by.Goals as goal

pub number_at-requires : goal.number_at-requires
number_at-requires c = has_term c.args.terms.now c.args.a c.requires.0

pub number_at-requires-2 : goal.number_at-requires-2
number_at-requires-2 c = has_second_term c.args.terms.now c.args.a c.args.b c.requires.0 c.requires.1

pub returns-in-Some-Some-clause-none : goal.returns-in-Some-Some-clause-none
returns-in-Some-Some-clause-none c = λ none.
    stays (tree_of c.args.terms.now) c.args.op c.args.a c.args.b _ _ (sym c.number_at.ensures.number ∙ c.in-Some-Some.is-0)
    (sym c.number_at-2.ensures.number ∙ c.in-Some-Some.is-1) (numbers_stay c.args.op _ _ _ _)
