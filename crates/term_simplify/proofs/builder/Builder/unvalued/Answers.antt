use Rattle.std.proofs.Common.{subst, sym}
use Rattle.bv_dag.specs.Graphs.{Graph, IsDag}
use Rattle.term_trees.specs.Trees.{tree_of, node_tree, IsTerm}
use Rattle.term_simplify.proofs.Building.{is_term_of, moved_here}
use Rattle.term_simplify.proofs.builder.Builder.unvalued.Goals as goal

pub returns-in-Some-clause-ok : goal.returns-in-Some-clause-ok
returns-in-Some-clause-ok c =
    let own = is_term_of c.args.self.now c.args.node (subst IsDag c.self.view_is c.in-Some.ensures.fit) c.requires in
    let there = subst (λ (g : Graph). IsTerm g.inputs (node_tree (tree_of g) c.args.node)) (sym c.self.view_is) own in
    moved_here c.self.inside.known c.args.self.now c.move_bits.new.self c.move_bits.result c.in-Some.bits c.args.node c.self.view_is
    c.in-Some.ensures.tree (λ input bytes. c.in-Some.ensures.worth input bytes there)
    c.move_bits.ensures.there c.move_bits.ensures.tree c.move_bits.ensures.ok

pub returns-in-Some-clause-term : goal.returns-in-Some-clause-term
returns-in-Some-clause-term c = is_term_of c.args.self.now c.args.node (subst IsDag c.self.view_is c.in-Some.ensures.fit) c.requires
