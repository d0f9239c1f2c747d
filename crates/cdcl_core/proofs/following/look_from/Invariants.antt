use Rattle.std.proofs.Common.{ℕ, ◌≤◌, length, nat_le}
use Rattle.cdcl_core.specs.Passes.{ArePending, IsFollowed}
use Rattle.cdcl_core.proofs.following.look_from.Given as goal

abbrev pub invariant-loop-place : goal.invariant-loop-place
invariant-loop-place l = record {
  followed : IsFollowed l.clauses l.initial.trail l.trail;
  looked : (first : ℕ) → first ≤ length l.initial.trail.entries → ArePending l.clauses l.initial.trail.entries first (nat_le l.start) → ArePending l.clauses l.trail.entries first (nat_le l.place);
}
