use Rattle.std.proofs.Common.{◌≡◌, ◌++◌, ◌-◌}
use Rattle.circuit_spec.specs.Rows.{number_row}
use Rattle.bit_blast.proofs.rows.number_row.Given as goal

abbrev pub invariant-loop-place : goal.invariant-loop-place
invariant-loop-place l = l.row.items ++ number_row (l.width - l._place) l.rest ≡ number_row l.width l.number
