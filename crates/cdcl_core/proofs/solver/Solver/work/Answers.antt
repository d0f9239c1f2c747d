use Rattle.std.proofs.Common.{◌≡◌, ◌∙◌, sym, Some, None}
use Rattle.cnf_form.specs.Valuations.{valuation}
use Rattle.cdcl_core.proofs.Learning.{is_found_at}
use Rattle.cdcl_core.proofs.solver.Solver.work.Goals as goal

pub returns-in_default-clause-found : goal.returns-in_default-clause-found
returns-in_default-clause-found c =
    is_found_at (valuation c.in_ok-valuation.field-0) c.args.formula.now c.run.new.self.clauses c.run.new.self.log c.run.new.self.trail c.run.new.self.calm c.in_ok-conflict.field-0 c.in_ok-conflict.ensures.search c.in_ok-valuation.ensures c.in_ok-conflict.ensures.descent c.in_default.not-Some

pub returns-in_ok-valuation-in-None-clause-found : goal.returns-in_ok-valuation-in-None-clause-found
returns-in_ok-valuation-in-None-clause-found c =
    is_found_at (valuation c.in_ok-valuation-in-None.field-0) c.args.formula.now c.run-2.new.self.clauses c.run-2.new.self.log c.run-2.new.self.trail c.run-2.new.self.calm c.in_ok-run.field-0 c.in_ok-run.ensures.search c.in_ok-valuation-in-None.ensures c.in_ok-run.ensures.descent (λ k is. let both : None ≡ Some k = sym c.in-None.is ∙ is in cc)
