use Rattle.std.proofs.Common.{take}
use Rattle.cdcl_core.proofs.Backjumping.{IsSecond}
use Rattle.cdcl_core.proofs.backjump.second.Given as goal

abbrev pub invariant-loop-literal : goal.invariant-loop-literal
invariant-loop-literal l = IsSecond l.trail.entries (take l.literal-index l.literal-items) l.first l.second
