use Rattle.std.proofs.Common.{◌∙◌, sym}
use Rattle.term_trees.specs.Trees.{tree_of}
use Rattle.term_trees.proofs.TreeLaws.{width-tree_of}
use Rattle.term_simplify.proofs.Reading.{has_second_term, has_term}
use Rattle.term_simplify.proofs.Words.{number_width}
use Rattle.term_simplify.proofs.equalities.undone_by.Goals as goal

pub number_at-requires : goal.number_at-requires
number_at-requires c = has_term c.args.terms.now c.args.a c.requires.fits.0

pub number_at-requires-2 : goal.number_at-requires-2
number_at-requires-2 c = has_second_term c.args.terms.now c.args.a c.args.b c.requires.fits.0 c.requires.fits.1

pub undone_second-requires : goal.undone_second-requires
undone_second-requires c =
    let g = c.args.terms.now in
    number_width (tree_of g c.args.b) c.in-None-Some.y (sym c.number_at-2.ensures.number ∙ c.in-None-Some.is-1)
    ∙ width-tree_of g c.args.b ∙ sym c.requires.fits.1 ∙ sym c.requires.wide

pub undone_first-requires : goal.undone_first-requires
undone_first-requires c =
    let g = c.args.terms.now in
    number_width (tree_of g c.args.a) c.in-Some-None.x (sym c.number_at.ensures.number ∙ c.in-Some-None.is-0)
    ∙ width-tree_of g c.args.a ∙ sym c.requires.wide
