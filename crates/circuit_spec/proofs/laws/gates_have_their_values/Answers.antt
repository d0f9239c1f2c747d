use Rattle.circuit_spec.proofs.GateMeaning.{and_means, or_means, xor_means, mux_means, xor3_means, majority_means}
use Rattle.circuit_spec.proofs.laws.gates_have_their_values.Goals as goal

pub returns-clause-and : goal.returns-clause-and
returns-clause-and c = and_means

pub returns-clause-or : goal.returns-clause-or
returns-clause-or c = or_means

pub returns-clause-xor : goal.returns-clause-xor
returns-clause-xor c = xor_means

pub returns-clause-mux : goal.returns-clause-mux
returns-clause-mux c = mux_means

pub returns-clause-sum : goal.returns-clause-sum
returns-clause-sum c = xor3_means

pub returns-clause-carry : goal.returns-clause-carry
returns-clause-carry c = majority_means
