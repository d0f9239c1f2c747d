use Rattle.fork_spec.proofs.Walking.{part_into_values_and_rest}
use Rattle.fork_spec.proofs.laws.a_node_may_part_into_values_and_the_rest.Goals as goal

pub returns : goal.returns
returns c = part_into_values_and_rest
