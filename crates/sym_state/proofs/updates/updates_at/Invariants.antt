use Rattle.std.proofs.Common.{◌≡◌, drop}
use Rattle.sym_state.specs.Updates as spec
use Rattle.sym_state.proofs.updates.updates_at.Given as goal

abbrev pub invariant-loop-list : goal.invariant-loop-list
invariant-loop-list l = spec.updates_at l.site (drop l.list-index l.updates) ≡ spec.updates_at l.site l.updates
