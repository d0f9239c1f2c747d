use Rattle.std.proofs.Common.{◌≡◌, ◌∙◌, ◌+◌, ap, arith, refl, sym}
use Rattle.bv_dag.specs.Graphs.{width_of}
use Rattle.bv_dag.proofs.TermLaws.{there}
use Rattle.term_trees.specs.Trees.{tree_of, tree_width}
use Rattle.term_trees.proofs.TreeLaws.{width-tree_of}
use Rattle.term_simplify.specs.Plain.{joined_of}
use Rattle.term_simplify.proofs.PartTerms.{width-further}
use Rattle.term_simplify.proofs.Stepping.{Stands-grown, at_tree, if_ok}
use Rattle.term_simplify.proofs.builder.Builder.one_above.Goals as goal

pub further-requires-clause-there : goal.further-requires-clause-there
further-requires-clause-there c = there c.args.self.now c.args.j.lower _ refl c.requires.lower

pub plain_step-requires : goal.plain_step-requires
plain_step-requires c =
    let g = c.args.self.now in
    let j = c.args.j in
    let upper = Stands-grown j.upper (width_of g j.upper) c.further.ensures.continues refl c.requires.upper in
    let wide : width_of c.further.new.self c.in_ok-lower.lower ≡ width_of g j.lower + j.by =
    sym (width-tree_of c.further.new.self c.in_ok-lower.lower) ∙ ap tree_width c.in_ok-lower.ensures.tree
    ∙ width-further j.by _ (tree_of g j.lower) ∙ ap (λ k. k + j.by) (width-tree_of g j.lower) in
    (omega (arith, upper.width, c.requires.upper), omega (arith, wide, c.requires.lower), omega (arith, upper.width, wide, c.requires.fits))

pub returns-clause-tree : goal.returns-clause-tree
returns-clause-tree c =
    let g = c.args.self.now in
    let j = c.args.j in
    let upper = Stands-grown j.upper (width_of g j.upper) c.further.ensures.continues refl c.requires.upper in
    let same = ap (λ k. joined_of k (tree_of c.further.new.self c.in_ok-lower.lower)) upper.tree ∙ ap (joined_of (tree_of g j.upper)) c.in_ok-lower.ensures.tree in
    if_ok _ _ _ c.plain_step.ensures.ok (λ id n. (at_tree same n).tree)
