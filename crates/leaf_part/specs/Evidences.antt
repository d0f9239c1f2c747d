-- What shows leaves, as a report claims it.
use Rattle.fork_spec.specs.Parts.{Evidence, OnConflicts, OnNodes, OnTargets}
use Rattle.leaf_part.specs.declared.evidence.Evidence.{Evidence as Held}
use Rattle.leaf_part.specs.declared.evidence.Evidence.TheVariants.{Conflicts, Nodes, Targets}

-- what shows the budget that was spent, as a report claims it
abbrev pub evidence_of : Held → Evidence
evidence_of (Targets spent) = OnTargets spent
evidence_of (Conflicts learnt) = OnConflicts learnt
evidence_of (Nodes count) = OnNodes count
