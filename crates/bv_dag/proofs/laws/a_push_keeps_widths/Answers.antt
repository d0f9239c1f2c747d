use Rattle.bv_dag.proofs.TermLaws.{width_of-with_node}
use Rattle.bv_dag.proofs.laws.a_push_keeps_widths.Goals as goal

pub returns : goal.returns
returns c = width_of-with_node
