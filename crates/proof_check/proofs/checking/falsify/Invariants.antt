use Rattle.std.proofs.Common.{◌≡◌, take}
use Rattle.cnf_form.specs.Propagation.{falsify}
use Rattle.proof_check.specs.Marking.{marked}
use Rattle.proof_check.proofs.checking.falsify.Given as goal

abbrev pub invariant-loop-literal : goal.invariant-loop-literal
invariant-loop-literal l = marked l.marks ≡ falsify (take l.literal-index l.clause)
