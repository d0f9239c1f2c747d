use Rattle.std.proofs.Common.{◌≡◌, take}
use Rattle.sym_state.proofs.updates.shared.Given as goal

abbrev pub invariant-loop-list : goal.invariant-loop-list
invariant-loop-list l = l.others.items ≡ take l.list-index l.updates
