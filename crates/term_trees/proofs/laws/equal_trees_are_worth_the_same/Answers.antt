use Rattle.term_trees.proofs.TreeLaws.{value-same}
use Rattle.term_trees.proofs.laws.equal_trees_are_worth_the_same.Goals as goal

pub returns : goal.returns
returns c = value-same
