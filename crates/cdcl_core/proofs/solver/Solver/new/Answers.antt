use Rattle.std.proofs.Common.{◌∙◌, ◌+◌, refl}
use Rattle.cdcl_core.proofs.Learning.{begins}
use Rattle.cdcl_core.proofs.solver.Solver.new.Goals as goal

pub returns-clause-search : goal.returns-clause-search
returns-clause-search c =
    begins c.args.formula.now c.in_ok-clause_list.field-0 c.new.result c.in_ok-new.field-0 (c.variables-last.result + 1) 0 (c.in_ok-clause_list.ensures ∙ c.clauses.ensures) c.new.ensures c.in_ok-new.ensures c.variables-last.ensures.below refl
