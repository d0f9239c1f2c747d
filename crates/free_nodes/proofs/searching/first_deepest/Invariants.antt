use Rattle.std.proofs.Common.{◌-◌, length}
use Rattle.free_nodes.proofs.Ways.{IsDeepestWay}
use Rattle.free_nodes.proofs.searching.first_deepest.Given as goal

abbrev pub invariant-loop-at : goal.invariant-loop-at
invariant-loop-at l = IsDeepestWay l.entries l.at l.deepest

abbrev pub decreases-loop-at : goal.decreases-loop-at
decreases-loop-at l = length l.entries - l.at
