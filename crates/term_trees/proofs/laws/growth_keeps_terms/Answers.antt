use Rattle.term_trees.proofs.TreeLaws.{tree-grown, value-grown, width-grown}
use Rattle.term_trees.proofs.laws.growth_keeps_terms.Goals as goal

pub returns-clause-trees : goal.returns-clause-trees
returns-clause-trees c = tree-grown

pub returns-clause-values : goal.returns-clause-values
returns-clause-values c = value-grown

pub returns-clause-widths : goal.returns-clause-widths
returns-clause-widths c = width-grown
