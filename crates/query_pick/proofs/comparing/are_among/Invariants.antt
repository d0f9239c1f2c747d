use Rattle.std.proofs.Common.{take}
use Rattle.query_pick.specs.Shapes.{AreAmong}
use Rattle.query_pick.proofs.comparing.are_among.Given as goal

abbrev pub invariant-loop-number : goal.invariant-loop-number
invariant-loop-number l = AreAmong (take l.number-index l.some) l.others
