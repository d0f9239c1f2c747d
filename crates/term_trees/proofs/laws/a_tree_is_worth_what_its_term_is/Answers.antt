use Rattle.term_trees.proofs.TreeLaws.{value-tree_of, width-tree_of}
use Rattle.term_trees.proofs.laws.a_tree_is_worth_what_its_term_is.Goals as goal

pub returns-clause-value : goal.returns-clause-value
returns-clause-value c = value-tree_of

pub returns-clause-width : goal.returns-clause-width
returns-clause-width c = width-tree_of
