use Rattle.std.proofs.Common.{◌≡◌, drop}
use Rattle.circuit_spec.specs.Rows.{equal_gate, equal_from}
use Rattle.bit_blast.proofs.gates.Gates.equal.Given as goal

abbrev pub invariant-loop-i : goal.invariant-loop-i
invariant-loop-i l = equal_from l.same (drop l.i l.a) (drop l.i l.b) l.self ≡ equal_gate l.a l.b l.fn.self
