use Rattle.fork_tree.proofs.Apart.{apart-noted}
use Rattle.fork_tree.proofs.laws.nodes_without_kids_stay_apart.Goals as goal

pub returns-clause-noted : goal.returns-clause-noted
returns-clause-noted g c = apart-noted
