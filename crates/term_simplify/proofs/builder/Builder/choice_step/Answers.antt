use Rattle.std.proofs.Common.{[], arith, subst}
use Rattle.bv_dag.specs.Graphs.{IsDag}
use Rattle.bv_dag.specs.declared.nodes.Node.TheVariants.{Ite}
use Rattle.term_trees.specs.Trees.{tree_of}
use Rattle.term_simplify.proofs.Building.{is_term_of}
use Rattle.term_simplify.proofs.NarrowSteps.{narrowing_here}
use Rattle.term_simplify.proofs.NarrowTerms.{as_own, choice_here, choice_is}
use Rattle.term_simplify.proofs.Stepping.{Stands-worth, at_tree, if_ok}
use Rattle.term_simplify.proofs.builder.Builder.choice_step.Goals as goal

pub narrow_choice-requires-clause-first : goal.narrow_choice-requires-clause-first
narrow_choice-requires-clause-first c =
    let g = c.args.self.now in
    let node = Ite c.args.condition c.args.yes c.args.no in
    let term = is_term_of g node (subst IsDag c.known.ensures c.in-Some.ensures.fit) c.requires in
    let is = narrowing_here _ g node _ _ c.known.ensures c.narrowing_of.ensures.is c.in-Some.is in
    (choice_here g c.in-Some.n [] (λ k d h. absurd (omega (arith, h))) c.args.condition c.args.yes c.args.no term is).fewer

pub returns-in-Some-clause-ok : goal.returns-in-Some-clause-ok
returns-in-Some-clause-ok c =
    let g = c.args.self.now in
    let node = Ite c.args.condition c.args.yes c.args.no in
    let term = is_term_of g node (subst IsDag c.known.ensures c.in-Some.ensures.fit) c.requires in
    let is = narrowing_here _ g node _ _ c.known.ensures c.narrowing_of.ensures.is c.in-Some.is in
    if_ok _ _ _ c.narrow_choice.ensures.ok (λ id made. at_tree (choice_is (tree_of g c.args.condition) (tree_of g c.args.yes) (tree_of g c.args.no) c.in-Some.n is)
    (Stands-worth (λ input bytes. (choice_here g c.in-Some.n input bytes c.args.condition c.args.yes c.args.no term is).worth) made))

pub returns-in-None-clause-ok : goal.returns-in-None-clause-ok
returns-in-None-clause-ok c =
    let g = c.args.self.now in
    let node = Ite c.args.condition c.args.yes c.args.no in
    let none = narrowing_here _ g node _ _ c.known.ensures c.narrowing_of.ensures.is c.in-None.is in
    if_ok _ _ _ c.own_step.ensures.ok (λ id made. at_tree (as_own (tree_of g) node none) made)
