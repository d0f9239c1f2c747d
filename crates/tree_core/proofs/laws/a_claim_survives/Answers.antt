use Rattle.tree_core.proofs.Surviving.{survives}
use Rattle.tree_core.proofs.laws.a_claim_survives.Goals as goal

pub returns : goal.returns
returns g c = survives g.R.Cover.covers g.R.Cover.by_nodes
