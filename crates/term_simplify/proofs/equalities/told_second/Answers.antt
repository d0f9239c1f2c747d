use Rattle.std.proofs.Common.{◌≡◌, ◌==◌, ◌∙◌, ap, sym, true, false}
use Rattle.term_trees.specs.Trees.{tree_of}
use Rattle.term_simplify.specs.declared.equalities.Equality.{Equality}
use Rattle.term_simplify.proofs.Reading.{has_second_term, has_term}
use Rattle.term_simplify.proofs.Telling.{HasPeeled, come_here, come_on, equal_second, equal_stays, number_at_second, sign_second, some_stays, stays}
use Rattle.term_simplify.proofs.Words.{tests_equal, tests_unequal}
use Rattle.term_simplify.proofs.equalities.told_second.Goals as goal

pub undone-requires : goal.undone-requires
undone-requires c =
    let g = c.args.terms.now in
    number_at_second g c.requires.dag c.args.a c.args.b c.args.y (has_term g c.args.a c.requires.fits.0)
    (has_second_term g c.args.a c.args.b c.requires.fits.0 c.requires.fits.1) c.requires.fits.1 c.requires.second

pub peeled-requires : goal.peeled-requires
peeled-requires c =
    let g = c.args.terms.now in
    let start : Equality = record { term = c.args.a; number = c.args.y } in
    let is = number_at_second g c.requires.dag c.args.a c.args.b c.args.y (has_term g c.args.a c.requires.fits.0)
    (has_second_term g c.args.a c.args.b c.requires.fits.0 c.requires.fits.1) c.requires.fits.1 c.requires.second in
    (come_on g c.requires.dag start start c.in-Some.inner (come_here g start is) c.in-Some.ensures.is c.in-Some.ensures.there).is_equality

pub returns-then-number-eq0-clause-some : goal.returns-then-number-eq0-clause-some
returns-then-number-eq0-clause-some c =
    let zero : (c.args.y.number == 0) ≡ true =
    ap (λ k. k == 0) (sym c.number.ensures.value) ∙ tests_equal _ 0 c.if-number-eq0.true in
    rw (c.in-Slt.is, c.width.ensures.value)
    (sign_second c.args.terms.now c.requires.dag c.args.a c.args.b c.args.y c.requires.fits c.requires.first c.requires.second zero)

pub returns-else-number-eq0-clause-none : goal.returns-else-number-eq0-clause-none
returns-else-number-eq0-clause-none c = λ none.
    let some : (c.args.y.number == 0) ≡ false =
    ap (λ k. k == 0) (sym c.number.ensures.value) ∙ tests_unequal _ 0 c.if-number-eq0.false in
    rw c.in-Slt.is (stays (tree_of c.args.terms.now) _ c.args.a c.args.b _ _ c.requires.first c.requires.second (some_stays c.args.y _ _ some))

pub returns-in-Some-clause-some : goal.returns-in-Some-clause-some
returns-in-Some-clause-some c =
    let g = c.args.terms.now in
    let start : Equality = record { term = c.args.a; number = c.args.y } in
    let is = number_at_second g c.requires.dag c.args.a c.args.b c.args.y (has_term g c.args.a c.requires.fits.0)
    (has_second_term g c.args.a c.args.b c.requires.fits.0 c.requires.fits.1) c.requires.fits.1 c.requires.second in
    let come : HasPeeled g start c.in-Some.inner =
    come_on g c.requires.dag start start c.in-Some.inner (come_here g start is) c.in-Some.ensures.is c.in-Some.ensures.there in
    rw c.in-Eq.is (equal_second g c.args.a c.args.b c.args.y c.peeled.result c.requires.first c.requires.second
    c.peeled.ensures.is_equality (c.peeled.ensures.is ∙ sym come.same) (λ input bytes. c.peeled.ensures.worth input bytes ∙ come.worth input bytes))

pub returns-in-None-clause-none : goal.returns-in-None-clause-none
returns-in-None-clause-none c = λ none.
    rw c.in-Eq.is (stays (tree_of c.args.terms.now) _ c.args.a c.args.b _ _ c.requires.first c.requires.second
    (equal_stays c.args.y _ _ c.requires.second c.in-None.ensures.is))
