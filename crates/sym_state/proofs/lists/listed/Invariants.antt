use Rattle.std.proofs.Common.{◌≡◌, take}
use Rattle.sym_state.proofs.lists.listed.Given as goal

abbrev pub invariant-loop-at : goal.invariant-loop-at
invariant-loop-at g l = l.items.items ≡ take l.at l.shared
