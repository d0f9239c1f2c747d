use Rattle.std.proofs.Common.{subst}
use Rattle.bv_dag.specs.Graphs.{Graph}
use Rattle.term_trees.specs.Trees.{tree_of, node_tree, IsTerm}
use Rattle.term_simplify.proofs.Building.{built}
use Rattle.term_simplify.proofs.builder.Builder.plain.Goals as goal

pub returns-in_default-clause-ok : goal.returns-in_default-clause-ok
returns-in_default-clause-ok c =
    built c.self.inside.known c.args.self.now c.carry_out.new.self c.carry_out.result
    c.plan-recipe.result c.args.node c.in_default.not-Extract c.self.view_is c.plan-recipe.ensures.term
    c.plan-recipe.ensures.makes c.carry_out.ensures.there c.carry_out.ensures.tree
    c.carry_out.ensures.ok

pub returns-in_default-clause-term : goal.returns-in_default-clause-term
returns-in_default-clause-term c = subst (λ (g : Graph). IsTerm g.inputs (node_tree (tree_of g) c.args.node))
    c.self.view_is c.plan-recipe.ensures.term
