use Rattle.bv_dag.proofs.Resting.{inputs_by_cases}
use Rattle.bv_dag.proofs.laws.inputs_are_by_cases.Goals as goal

pub returns : goal.returns
returns c = inputs_by_cases
