use Rattle.circuit_spec.proofs.Solutions.{bytes_count, solution}
use Rattle.circuit_spec.proofs.laws.solutions.valuations_are_solutions.Goals as goal

pub returns-clause-count : goal.returns-clause-count
returns-clause-count c = bytes_count

pub returns-clause-hold : goal.returns-clause-hold
returns-clause-hold c = solution
