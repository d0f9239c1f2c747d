use Rattle.cert_audit.proofs.Leaving.{IncreasesUpTo}
use Rattle.cert_audit.proofs.values.are_increasing.Given as goal

abbrev pub invariant-loop-at : goal.invariant-loop-at
invariant-loop-at l = IncreasesUpTo l.at l.values
