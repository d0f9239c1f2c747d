use Rattle.std.proofs.Common.{◌-◌, ◌*◌, ◌/◌, ◌≤◌, length}
use Rattle.free_nodes.specs.Entries.{AreSameFrom, IsJoined}
use Rattle.free_nodes.proofs.entries.join_all.Given as goal

abbrev pub invariant-loop-at : goal.invariant-loop-at
invariant-loop-at l = record {
  above : l.at * 2 ≤ length l.fn.entries;
  joined : IsJoined l.entries l.at 0;
  same : AreSameFrom (length l.fn.entries / 2) l.fn.entries l.entries;
}

abbrev pub decreases-loop-at : goal.decreases-loop-at
decreases-loop-at l = l.at - 1
