use Rattle.circuit_spec.proofs.GateMeaning.{added}
use Rattle.circuit_spec.proofs.laws.a_clause_is_one_more_condition.Goals as goal

pub returns : goal.returns
returns c = added
