use Rattle.term_trees.proofs.InputLaws.{inputs-tree_of, inputs-same}
use Rattle.term_trees.proofs.laws.a_tree_names_the_inputs_under_its_term.Goals as goal

pub returns-clause-own : goal.returns-clause-own
returns-clause-own c = inputs-tree_of

pub returns-clause-same : goal.returns-clause-same
returns-clause-same c = inputs-same
