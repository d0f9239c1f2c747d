use Rattle.cdcl_core.specs.Occurrences.{AreSeen}
use Rattle.cdcl_core.proofs.occurrences.occurrences.Given as goal

abbrev pub invariant-loop-place : goal.invariant-loop-place
invariant-loop-place l = AreSeen l.formula l.seen.items
