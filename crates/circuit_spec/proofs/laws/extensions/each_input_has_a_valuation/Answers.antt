use Rattle.circuit_spec.proofs.Assigning.{condition_has}
use Rattle.circuit_spec.proofs.laws.extensions.each_input_has_a_valuation.Goals as goal

pub returns : goal.returns
returns c = λ q bytes small. let is = condition_has q bytes small in (is.valuation, is.truth, is.satisfied, is.worth)
