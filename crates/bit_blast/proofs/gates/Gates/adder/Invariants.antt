use Rattle.std.proofs.Common.{◌≡◌, drop}
use Rattle.circuit_spec.specs.Rows.{adder}
use Rattle.bit_blast.proofs.Walks.{with_sums}
use Rattle.bit_blast.proofs.gates.Gates.adder.Given as goal

abbrev pub invariant-loop-i : goal.invariant-loop-i
invariant-loop-i l = with_sums l.sums.items (adder (drop l.i l.a) (drop l.i l.b) l.carry l.self) ≡ adder l.a l.b l.fn.carry l.fn.self
