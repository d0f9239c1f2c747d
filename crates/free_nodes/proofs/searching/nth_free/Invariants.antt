use Rattle.std.proofs.Common.{◌-◌, length}
use Rattle.free_nodes.proofs.Ways.{IsNthWay}
use Rattle.free_nodes.proofs.searching.nth_free.Given as goal

abbrev pub invariant-loop-at : goal.invariant-loop-at
invariant-loop-at l = IsNthWay l.entries l.at l.before l.fn.before

abbrev pub decreases-loop-at : goal.decreases-loop-at
decreases-loop-at l = length l.entries - l.at
