use Rattle.std.proofs.Common.{false, ◌+◌, ◌-◌, length}
use Rattle.cdcl_core.specs.Trails.{free_count}
use Rattle.cdcl_core.specs.Passes.{ArePending, IsFollowed}
use Rattle.cdcl_core.proofs.following.follow.Given as goal

abbrev pub invariant-loop-literal : goal.invariant-loop-literal
invariant-loop-literal l = record {
  followed : IsFollowed l.clauses l.initial.trail l.trail;
  pending : ArePending l.clauses l.initial.trail.entries l.first (λ k. false) → ArePending l.clauses l.trail.entries l.place (λ k. false);
}

abbrev pub decreases-loop-literal : goal.decreases-loop-literal
decreases-loop-literal l = length l.trail.entries + free_count l.trail.marks - l.place
