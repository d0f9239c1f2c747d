use Rattle.std.proofs.Common.{◌≡◌, length}
use Rattle.cdcl_core.specs.Trails.{IsTrail, AreCalm, trail_values, free_count}
use Rattle.cdcl_core.proofs.descent.descend_from.Given as goal

abbrev pub invariant-choices : goal.invariant-choices
invariant-choices l = record {
  trail : IsTrail l.clauses l.trail.entries;
  size : length l.trail.marks ≡ length l.initial.trail.marks;
  calm : AreCalm (trail_values l.trail.entries) l.clauses;
}

abbrev pub decreases-choices : goal.decreases-choices
decreases-choices l = free_count l.trail.marks
