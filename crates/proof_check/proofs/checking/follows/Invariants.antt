use Rattle.std.proofs.Common.{◌≡◌, ◌++◌, drop}
use Rattle.cnf_form.specs.Propagation.{follows, reaches_conflict}
use Rattle.cnf_form.specs.Refutations.{clauses_of}
use Rattle.proof_check.specs.Marking.{marked}
use Rattle.proof_check.proofs.checking.follows.Given as goal

abbrev pub invariant-loop-i : goal.invariant-loop-i
invariant-loop-i l = reaches_conflict (l.formula ++ clauses_of l.earlier) (drop l.i l.hints) (marked l.marks) ≡ follows (l.formula ++ clauses_of l.earlier) l.step.clause l.step.hints
