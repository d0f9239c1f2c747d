use Rattle.term_trees.specs.Trees.{tree_of}
use Rattle.bv_dag.specs.declared.nodes.Comparison.TheVariants.{Ult}
use Rattle.term_simplify.proofs.Reading.{has_second_term, has_term}
use Rattle.term_simplify.proofs.Telling.{number_at_second, stays, ult_stays, within_second}
use Rattle.term_simplify.proofs.equalities.told_below.Goals as goal

pub interval_of-requires : goal.interval_of-requires
interval_of-requires c =
    let g = c.args.terms.now in
    number_at_second g c.requires.dag c.args.a c.args.b c.args.y (has_term g c.args.a c.requires.fits.0)
    (has_second_term g c.args.a c.args.b c.requires.fits.0 c.requires.fits.1) c.requires.fits.1 c.requires.second

pub returns-in-Some-clause-some : goal.returns-in-Some-clause-some
returns-in-Some-clause-some c =
    within_second c.args.terms.now c.requires.dag c.args.a c.args.b c.args.y c.in-Some.interval c.requires.fits c.requires.first c.requires.second
    c.in-Some.ensures.some c.in-Some.ensures.is

pub returns-in-None-clause-none : goal.returns-in-None-clause-none
returns-in-None-clause-none c = λ none.
    stays (tree_of c.args.terms.now) Ult c.args.a c.args.b _ _ c.requires.first c.requires.second
    (ult_stays c.args.y _ _ c.in-None.ensures.is)
