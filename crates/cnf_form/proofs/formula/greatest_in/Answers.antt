use Rattle.std.proofs.Common.{sym, ◌∙◌}
use Rattle.cnf_form.proofs.Variables.{greatest_is_last, none_is_last}
use Rattle.cnf_form.proofs.formula.greatest_in.Goals as goal

pub returns-in-Some : goal.returns-in-Some
returns-in-Some c = c.variable.ensures.value ∙ greatest_is_last c.args.clause.now c.in-Some.literal.now c.requires (sym c.in-Some.ensures.value)

pub returns-in-None : goal.returns-in-None
returns-in-None c = sym (none_is_last c.args.clause.now (sym c.in-None.ensures.value))
