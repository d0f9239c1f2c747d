use Rattle.circuit_spec.proofs.Completeness.{has_valuation}
use Rattle.circuit_spec.proofs.laws.solutions.solutions_are_valuations.Goals as goal

pub returns : goal.returns
returns c = has_valuation
