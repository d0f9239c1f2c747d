use Rattle.std.proofs.Common.{◌∙◌, ap, sym}
use Rattle.cnf_form.specs.Variables.{greatest_variable}
use Rattle.cnf_form.proofs.Variables.{no_variable}
use Rattle.cnf_form.proofs.formula.Cnf.new.Goals as goal

pub invariant_of-result : goal.invariant_of-result
invariant_of-result c = sym (ap greatest_variable c.new.ensures ∙ no_variable)
