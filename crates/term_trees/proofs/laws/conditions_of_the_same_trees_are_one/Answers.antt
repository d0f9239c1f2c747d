use Rattle.term_trees.proofs.Conditions.{holds-same_trees}
use Rattle.term_trees.proofs.laws.conditions_of_the_same_trees_are_one.Goals as goal

pub returns : goal.returns
returns c = holds-same_trees
