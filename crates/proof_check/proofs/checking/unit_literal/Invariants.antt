use Rattle.std.proofs.Common.{◌≡◌, take, option_to_list}
use Rattle.cnf_form.specs.Propagation.{open_literals}
use Rattle.proof_check.specs.Marking.{marked}
use Rattle.proof_check.proofs.checking.unit_literal.Given as goal

abbrev pub invariant-loop-literal : goal.invariant-loop-literal
invariant-loop-literal l = option_to_list l.open ≡ open_literals (marked l.marks) (take l.literal-index l.clause)
