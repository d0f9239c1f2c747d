use Rattle.circuit_spec.proofs.EarlierClauses.{truth_before}
use Rattle.circuit_spec.proofs.laws.circuits.the_first_variable_is_true.Goals as goal

pub returns : goal.returns
returns c = truth_before
