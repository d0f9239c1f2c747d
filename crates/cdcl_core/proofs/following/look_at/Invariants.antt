use Rattle.std.proofs.Common.{ℕ, ◌≤◌, length, drop}
use Rattle.cdcl_core.specs.Places.{is_among}
use Rattle.cdcl_core.specs.Passes.{ArePending, IsFollowed}
use Rattle.cdcl_core.proofs.following.look_at.Given as goal

abbrev pub invariant-loop-place : goal.invariant-loop-place
invariant-loop-place l = record {
  followed : IsFollowed l.clauses l.initial.trail l.trail;
  looked : (first : ℕ) → first ≤ length l.initial.trail.entries → ArePending l.clauses l.initial.trail.entries first (is_among l.places) → ArePending l.clauses l.trail.entries first (is_among (drop l.place-index l.places));
}
