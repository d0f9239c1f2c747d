use Rattle.std.proofs.Common.{◌≡◌, drop}
use Rattle.cnf_form.specs.Valuations.{valuation}
use Rattle.circuit_spec.specs.Bytes.{number_of_row}
use Rattle.bit_blast.proofs.values.number_of.Given as goal

abbrev pub invariant-loop-i : goal.invariant-loop-i
invariant-loop-i l = l.number ≡ number_of_row (valuation l.values) (drop l.i l.row)
