use Rattle.std.proofs.Common.{◌≡◌, ◌+◌, ◌-◌, ◌≤◌, ◌++◌, drop, length, take}
use Rattle.std.specs.Prelude.{All}
use Rattle.sym_state.specs.KeptUpdates.{KeptUpdates}
use Rattle.sym_state.specs.Updates as spec
use Rattle.sym_state.proofs.updates.give_up.Given as goal

abbrev pub invariant-loop-at : goal.invariant-loop-at
invariant-loop-at l = record {
  short : All (λ (t : KeptUpdates). t.site.stride.scale + t.site.stride.count ≤ 31) l.updates.items;
  within : l.at ≤ length l.updates.items;
  left : take l.at l.updates.items ++ spec.without l.address (drop l.at l.updates.items)
      ≡ spec.without l.address l.fn.updates.items;
}

abbrev pub decreases-loop-at : goal.decreases-loop-at
decreases-loop-at l = length l.updates.items - l.at
