use Rattle.std.proofs.Common.{◌+◌, ◌≡◌, true, arith, subst}
use Rattle.std.specs.List.{list_all}
use Rattle.cnf_form.specs.Variables.{is_below}
use Rattle.cnf_form.proofs.Variables.{all_below}
use Rattle.cnf_form.proofs.formula.Cnf.variables.Goals as goal

pub returns-clause-below : goal.returns-clause-below
returns-clause-below c =
    subst (λ cs. list_all (is_below (c.self.inside.variables + 1)) cs ≡ true) c.self.view_is
    (all_below (c.self.inside.variables + 1) c.self.inside.clauses (omega (arith, c.self.invariant)))
