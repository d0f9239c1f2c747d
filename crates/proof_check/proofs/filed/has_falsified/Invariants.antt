use Rattle.proof_check.specs.Marking.{marked}
use Rattle.proof_check.proofs.Filing.{IsWalk}
use Rattle.proof_check.proofs.filed.has_falsified.Given as goal

abbrev pub invariant-loop-number : goal.invariant-loop-number
invariant-loop-number l = IsWalk (marked l.marks) l.clauses l.key l.number

abbrev pub decreases-loop-number : goal.decreases-loop-number
decreases-loop-number l = l.number
