use Rattle.term_trees.proofs.SubsetLaws.{holds-less, unsatisfiable-more}
use Rattle.term_trees.proofs.laws.what_asks_no_more_is_met_sooner.Goals as goal

pub returns-clause-met : goal.returns-clause-met
returns-clause-met c = holds-less

pub returns-clause-unmet : goal.returns-clause-unmet
returns-clause-unmet c = unsatisfiable-more
