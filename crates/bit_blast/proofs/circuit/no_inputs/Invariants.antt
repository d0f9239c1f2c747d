use Rattle.std.proofs.Common.{◌≡◌, replicate, None}
use Rattle.bit_blast.proofs.circuit.no_inputs.Given as goal

abbrev pub invariant-loop-input : goal.invariant-loop-input
invariant-loop-input l = l.none.items ≡ replicate l._input None
