use Rattle.std.proofs.Common.{sym}
use Rattle.term_trees.specs.Trees.{tree_of}
use Rattle.term_simplify.proofs.Reading.{has_second_term, has_term}
use Rattle.term_simplify.proofs.Telling.{equal_first, first_stays, number_at_second, slt_stays, stays}
use Rattle.term_simplify.proofs.equalities.told_first.Goals as goal

pub peeled-requires : goal.peeled-requires
peeled-requires c =
    let g = c.args.terms.now in
    number_at_second g c.requires.dag c.args.b c.args.a c.args.x (has_second_term g c.args.a c.args.b c.requires.fits.0 c.requires.fits.1)
    (has_term g c.args.a c.requires.fits.0) (sym c.requires.fits.1) c.requires.first

pub returns-in-Ult-clause-none : goal.returns-in-Ult-clause-none
returns-in-Ult-clause-none c = λ none.
    rw c.in-Ult.is (stays (tree_of c.args.terms.now) _ c.args.a c.args.b _ _ c.requires.first c.requires.second
    (first_stays c.args.x (tree_of c.args.terms.now c.args.a) (tree_of c.args.terms.now c.args.b)))

pub returns-in-Slt-clause-none : goal.returns-in-Slt-clause-none
returns-in-Slt-clause-none c = λ none.
    rw c.in-Slt.is (stays (tree_of c.args.terms.now) _ c.args.a c.args.b _ _ c.requires.first c.requires.second
    (slt_stays c.args.x (tree_of c.args.terms.now c.args.a) (tree_of c.args.terms.now c.args.b)))

pub returns-in-Eq-clause-some : goal.returns-in-Eq-clause-some
returns-in-Eq-clause-some c =
    rw c.in-Eq.is (equal_first c.args.terms.now c.args.a c.args.b c.args.x c.peeled.result c.requires.first c.requires.second
    c.peeled.ensures.is_equality c.peeled.ensures.is c.peeled.ensures.worth)
