use Rattle.std.proofs.Common.{◌≡◌, drop}
use Rattle.circuit_spec.specs.Products.{products, mul_row}
use Rattle.bit_blast.proofs.gates.Gates.mul.Given as goal

abbrev pub invariant-loop-i : goal.invariant-loop-i
invariant-loop-i l = products l.a (drop l.i l.b) l.i l.total.items l.self ≡ mul_row l.a l.b l.fn.self
