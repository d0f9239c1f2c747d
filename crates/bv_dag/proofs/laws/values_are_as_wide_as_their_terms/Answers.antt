use Rattle.bv_dag.proofs.TermLaws.{width-val}
use Rattle.bv_dag.proofs.laws.values_are_as_wide_as_their_terms.Goals as goal

pub returns : goal.returns
returns c = width-val
