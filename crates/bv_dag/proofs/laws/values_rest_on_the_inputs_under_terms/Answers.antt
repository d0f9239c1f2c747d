use Rattle.bv_dag.proofs.Resting.{val-agrees, holds-agrees}
use Rattle.bv_dag.proofs.laws.values_rest_on_the_inputs_under_terms.Goals as goal

pub returns-clause-terms : goal.returns-clause-terms
returns-clause-terms c = val-agrees

pub returns-clause-conditions : goal.returns-clause-conditions
returns-clause-conditions c = holds-agrees
