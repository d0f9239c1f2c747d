use Rattle.term_trees.specs.Trees.{tree_of}
use Rattle.term_simplify.specs.Plans.{plan_tree}
use Rattle.term_simplify.proofs.Lifts.{lifted_signs, lifted_zeros, no_further, none_stands, span_fits, span_none, span_stands, span_tree, tree_stands}
use Rattle.term_simplify.proofs.lifting.span_made.Goals as goal
use Rattle.term_simplify.proofs.lifting.span_made.Goals.{then-recipe-gt0-via-then-recipe-gt0, then-recipe-gt0-via-else-recipe-gt0+then-recipe-gt0-2}

pub returns-then-recipe-gt0-clause-none : goal.returns-then-recipe-gt0-clause-none
returns-then-recipe-gt0-clause-none c =
    elim c.then-recipe-gt0.branch [
      | then-recipe-gt0-via-then-recipe-gt0 w ↦ λ levels. lifted_signs levels c.args.recipe.above _ w.if-recipe-gt0.true
      | then-recipe-gt0-via-else-recipe-gt0+then-recipe-gt0-2 w ↦ λ levels. lifted_zeros levels c.args.recipe.above _ w.if-recipe-gt0-2.true
    ]

pub returns-in-Term-clause-some : goal.returns-in-Term-clause-some
returns-in-Term-clause-some c =
    span_stands c.args.terms.now c.in-Term.id c.node.ensures.fit c.node.result c.node_span.result c.node.ensures.is c.node_span.ensures

pub returns-in-Term-clause-is : goal.returns-in-Term-clause-is
returns-in-Term-clause-is c =
    rw (no_further c.args.recipe.above (plan_tree c.args.terms.now c.args.recipe.core) c.if-recipe-gt0.false c.if-recipe-gt0-2.false, c.in-Term.is)
    (tree_stands c.args.terms.now c.in-Term.id c.node.ensures.fit c.node.result c.node_span.result c.node.ensures.is c.node_span.ensures)

pub returns-in-Term-clause-none : goal.returns-in-Term-clause-none
returns-in-Term-clause-none c =
    rw (no_further c.args.recipe.above (plan_tree c.args.terms.now c.args.recipe.core) c.if-recipe-gt0.false c.if-recipe-gt0-2.false, c.in-Term.is)
    (none_stands c.args.terms.now c.in-Term.id c.node.ensures.fit c.node.result c.node_span.result c.node.ensures.is c.node_span.ensures)

pub returns-in-Push-clause-some : goal.returns-in-Push-clause-some
returns-in-Push-clause-some c =
    span_fits c.args.terms.now c.in-Push.node c.node_span-in-Push.result c.node_span-in-Push.ensures (rw c.in-Push.is at c.requires.core)

pub returns-in-Push-clause-is : goal.returns-in-Push-clause-is
returns-in-Push-clause-is c =
    rw (no_further c.args.recipe.above (plan_tree c.args.terms.now c.args.recipe.core) c.if-recipe-gt0.false c.if-recipe-gt0-2.false, c.in-Push.is)
    (span_tree c.args.terms.now c.in-Push.node c.node_span-in-Push.result c.node_span-in-Push.ensures)

pub returns-in-Push-clause-none : goal.returns-in-Push-clause-none
returns-in-Push-clause-none c =
    rw (no_further c.args.recipe.above (plan_tree c.args.terms.now c.args.recipe.core) c.if-recipe-gt0.false c.if-recipe-gt0-2.false, c.in-Push.is)
    (span_none (tree_of c.args.terms.now) c.in-Push.node c.node_span-in-Push.result c.node_span-in-Push.ensures)
