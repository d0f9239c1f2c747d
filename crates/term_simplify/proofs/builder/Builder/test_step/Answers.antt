use Rattle.std.proofs.Common.{[], arith, subst}
use Rattle.bv_dag.specs.Graphs.{IsDag}
use Rattle.bv_dag.specs.declared.nodes.Node.TheVariants.{Compare}
use Rattle.term_trees.specs.Trees.{tree_of}
use Rattle.term_simplify.proofs.Building.{is_term_of}
use Rattle.term_simplify.proofs.NarrowSteps.{narrowing_here}
use Rattle.term_simplify.proofs.NarrowTerms.{comparison_is, test_here}
use Rattle.term_simplify.proofs.Stepping.{Stands-worth, at_tree, if_ok}
use Rattle.term_simplify.proofs.builder.Builder.test_step.Goals as goal

pub narrow_test-requires-clause-first : goal.narrow_test-requires-clause-first
narrow_test-requires-clause-first c =
    let g = c.args.self.now in
    let node = Compare c.args.op c.args.a c.args.b in
    let term = is_term_of g node (subst IsDag c.known.ensures c.in-Some.ensures.fit) c.requires in
    let is = narrowing_here _ g node _ _ c.known.ensures c.narrowing_of.ensures.is c.in-Some.is in
    (test_here g c.in-Some.n [] (λ k d h. absurd (omega (arith, h))) c.args.op c.args.a c.args.b term is).fewer

pub returns-in-Some-clause-ok : goal.returns-in-Some-clause-ok
returns-in-Some-clause-ok c =
    let g = c.args.self.now in
    let node = Compare c.args.op c.args.a c.args.b in
    let term = is_term_of g node (subst IsDag c.known.ensures c.in-Some.ensures.fit) c.requires in
    let is = narrowing_here _ g node _ _ c.known.ensures c.narrowing_of.ensures.is c.in-Some.is in
    if_ok _ _ _ c.narrow_test.ensures.ok (λ id made. at_tree (comparison_is c.args.op (tree_of g c.args.a) (tree_of g c.args.b) c.in-Some.n is)
    (Stands-worth (λ input bytes. (test_here g c.in-Some.n input bytes c.args.op c.args.a c.args.b term is).worth) made))
