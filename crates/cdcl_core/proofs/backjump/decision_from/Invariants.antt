use Rattle.std.proofs.Common.{ℕ, ◌<◌}
use Rattle.cdcl_core.specs.Trails.{IsDecisionAt}
use Rattle.cdcl_core.proofs.backjump.decision_from.Given as goal

abbrev pub invariant-loop-place : goal.invariant-loop-place
invariant-loop-place l = (p : ℕ) → p < l.place → IsDecisionAt l.entries p → p < l.start
