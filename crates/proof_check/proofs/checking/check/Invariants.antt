use Rattle.std.proofs.Common.{◌≡◌, ◌++◌, take, drop}
use Rattle.cnf_form.specs.Refutations.{clauses_of, follows_all}
use Rattle.proof_check.proofs.checking.check.Given as goal

abbrev pub invariant-loop-i : goal.invariant-loop-i
invariant-loop-i l = follows_all (l.formula ++ clauses_of (take l.i l.steps)) (drop l.i l.steps) ≡ follows_all l.formula l.log
