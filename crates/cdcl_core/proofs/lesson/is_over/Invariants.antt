use Rattle.std.proofs.Common.{◌≡◌, true, take}
use Rattle.cnf_form.specs.Variables.{is_over}
use Rattle.cdcl_core.proofs.lesson.is_over.Given as goal

abbrev pub invariant-loop-literal : goal.invariant-loop-literal
invariant-loop-literal l = is_over l.clauses (take l.literal-index l.literal-items) ≡ true
