use Rattle.std.proofs.Common.{subst}
use Rattle.std.specs.Prelude.{IfSome}
use Rattle.bv_dag.specs.Queries.{Condition}
use Rattle.circuit_spec.specs.Budgets.{IsSpent}
use Rattle.query_decide.specs.Decisions.{IsDecided}
use Rattle.query_front.proofs.asking.decided.Goals as goal

pub returns-in-Some : goal.returns-in-Some
returns-in-Some g c q new part sampled =
    c.spent_on.ensures q new c.args.budget part (subst (λ found. IfSome found (IsSpent c.args.part c.args.budget)) c.in-Some.is c.in_ok-log.ensures)

pub returns-in-Spent : goal.returns-in-Spent
returns-in-Spent g c q new part sampled =
    c.spent_on-in-Spent.ensures q new c.args.budget part
    (subst (λ (p : Condition). IsSpent p c.args.budget c.in-Spent.log) c.query.ensures (subst (IsDecided c.query.result.now c.args.budget) c.in-Spent.is c.in_ok-input.ensures))
