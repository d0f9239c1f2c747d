use Rattle.std.proofs.Common.{◌≡◌, drop}
use Rattle.circuit_spec.specs.Gates.{gate_of}
use Rattle.circuit_spec.specs.Rows.{each}
use Rattle.bit_blast.proofs.Walks.{with_before}
use Rattle.bit_blast.proofs.gates.Gates.each.Given as goal

abbrev pub invariant-loop-i : goal.invariant-loop-i
invariant-loop-i l = with_before l.row.items (each (gate_of l.gate) (drop l.i l.a) (drop l.i l.b) l.self) ≡ each (gate_of l.gate) l.a l.b l.fn.self
