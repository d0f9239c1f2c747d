use Rattle.std.proofs.Common.{None, refl}
use Rattle.bv_dag.specs.declared.nodes.Comparison.TheVariants.{Ult, Slt, Eq}
use Rattle.term_trees.specs.Trees.{tree_of}
use Rattle.term_simplify.proofs.BalanceReading.{balance_tells, equal_stays_alone}
use Rattle.term_simplify.proofs.Reading.{has_second_term, has_term}
use Rattle.term_simplify.proofs.Telling.{stays}
use Rattle.term_simplify.proofs.equalities.told_terms.Goals as goal

pub balance_of-requires-clause-first : goal.balance_of-requires-clause-first
balance_of-requires-clause-first c = has_term c.args.terms.now c.args.a c.requires.fits.0

pub balance_of-requires-clause-second : goal.balance_of-requires-clause-second
balance_of-requires-clause-second c = has_second_term c.args.terms.now c.args.a c.args.b c.requires.fits.0 c.requires.fits.1

pub returns-in-Ult-clause-none : goal.returns-in-Ult-clause-none
returns-in-Ult-clause-none c = λ none.
    rw c.in-Ult.is (stays (tree_of c.args.terms.now) Ult c.args.a c.args.b None None c.requires.first c.requires.second refl)

pub returns-in-Slt-clause-none : goal.returns-in-Slt-clause-none
returns-in-Slt-clause-none c = λ none.
    rw c.in-Slt.is (stays (tree_of c.args.terms.now) Slt c.args.a c.args.b None None c.requires.first c.requires.second refl)

pub returns-in-Some-clause-some : goal.returns-in-Some-clause-some
returns-in-Some-clause-some c =
    rw c.in-Eq.is (balance_tells c.args.terms.now c.requires.dag c.args.a c.args.b c.in-Some.balance c.requires.fits c.in-Some.ensures.is c.requires.first c.requires.second c.in-Some.ensures.some)

pub returns-in-None-clause-none : goal.returns-in-None-clause-none
returns-in-None-clause-none c = λ none.
    let f = tree_of c.args.terms.now in
    rw c.in-Eq.is (stays f Eq c.args.a c.args.b None None c.requires.first c.requires.second (equal_stays_alone (f c.args.a) (f c.args.b) c.in-None.ensures.is))
