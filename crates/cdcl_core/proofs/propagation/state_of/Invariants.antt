use Rattle.std.proofs.Common.{length, take}
use Rattle.cdcl_core.specs.Trails.{trail_values}
use Rattle.cdcl_core.proofs.Scanning.{IsScan}
use Rattle.cdcl_core.proofs.propagation.state_of.Given as goal

abbrev pub invariant-loop-place : goal.invariant-loop-place
invariant-loop-place l = IsScan (trail_values l.trail.entries) (length l.trail.marks) (take l.place l.clause) l.open
