use Rattle.std.proofs.Common.{take}
use Rattle.node_split.specs.Splits.{AreSidesOf}
use Rattle.node_split.proofs.pin.value_sides.Given as goal

abbrev pub invariant-loop-at : goal.invariant-loop-at
invariant-loop-at l = AreSidesOf l.state l.pin.term (take l.at-index l.found) l.kids.items
