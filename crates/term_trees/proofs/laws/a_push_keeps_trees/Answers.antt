use Rattle.term_trees.proofs.TreeLaws.{tree_of-with_node, tree_of-new}
use Rattle.term_trees.proofs.laws.a_push_keeps_trees.Goals as goal

pub returns-clause-others : goal.returns-clause-others
returns-clause-others c = tree_of-with_node

pub returns-clause-own : goal.returns-clause-own
returns-clause-own c = tree_of-new
