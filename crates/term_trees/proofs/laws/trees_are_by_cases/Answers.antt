use Rattle.term_trees.proofs.TreeLaws.{tree_by_cases}
use Rattle.term_trees.proofs.laws.trees_are_by_cases.Goals as goal

pub returns : goal.returns
returns c = tree_by_cases
