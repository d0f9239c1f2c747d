use Rattle.std.proofs.Common.{◌≡◌, true, take}
use Rattle.std.specs.List.{list_all}
use Rattle.cdcl_core.specs.Trails.{trail_values}
use Rattle.cdcl_core.specs.Passes.{has_true}
use Rattle.cdcl_core.proofs.descent.open_literal.Given as goal

abbrev pub invariant-loop-i : goal.invariant-loop-i
invariant-loop-i l = list_all (has_true (trail_values l.trail.entries)) (take l.i l.clauses) ≡ true
