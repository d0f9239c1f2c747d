use Rattle.std.proofs.Common.{◌≡◌, take}
use Rattle.sym_state.specs.Updates as spec
use Rattle.sym_state.proofs.updates.updates_with.Given as goal

abbrev pub invariant-loop-list : goal.invariant-loop-list
invariant-loop-list l = l.others.items ≡ spec.elsewhere l.site.page (take l.list-index l.updates)
