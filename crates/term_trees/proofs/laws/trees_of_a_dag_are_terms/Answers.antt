use Rattle.term_trees.proofs.Terms.{is_term}
use Rattle.term_trees.proofs.laws.trees_of_a_dag_are_terms.Goals as goal

pub returns : goal.returns
returns c = is_term
