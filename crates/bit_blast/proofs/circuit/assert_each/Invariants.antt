use Rattle.std.proofs.Common.{◌≡◌, take}
use Rattle.circuit_spec.specs.Circuits.{with_asserted}
use Rattle.bit_blast.proofs.circuit.assert_each.Given as goal

abbrev pub invariant-loop-id : goal.invariant-loop-id
invariant-loop-id l = l.gates ≡ with_asserted l.rows (take l.id-index l.asserted) l.fn.gates
