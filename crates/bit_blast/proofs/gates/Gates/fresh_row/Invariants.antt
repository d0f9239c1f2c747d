use Rattle.std.proofs.Common.{◌≡◌, ◌-◌}
use Rattle.circuit_spec.specs.Rows.{fresh_row}
use Rattle.bit_blast.proofs.Walks.{with_before}
use Rattle.bit_blast.proofs.gates.Gates.fresh_row.Given as goal

abbrev pub invariant-loop-place : goal.invariant-loop-place
invariant-loop-place l = with_before l.row.items (fresh_row (l.width - l._place) l.self) ≡ fresh_row l.width l.fn.self
