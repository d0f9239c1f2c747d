use Rattle.std.proofs.Common.{[], take}
use Rattle.std.specs.List.Sorted.{IsStrictlyIncreasing}
use Rattle.query_pick.specs.Operands.{Adds}
use Rattle.query_pick.proofs.finding.in_order.Given as goal

abbrev pub invariant-loop-id : goal.invariant-loop-id
invariant-loop-id l = IsStrictlyIncreasing l.all.items × Adds [] l.all.items (take l.id-index l.places)
