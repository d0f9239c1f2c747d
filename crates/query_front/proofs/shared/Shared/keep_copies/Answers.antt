use Rattle.std.proofs.Common.{List, length, sym, subst}
use Rattle.bv_dag.specs.Queries.{Condition}
use Rattle.circuit_spec.specs.Budgets.{IsSpent}
use Rattle.cnf_form.specs.Refutations.{Step}
use Rattle.query_front.proofs.shared.Shared.keep_copies.Goals as goal

pub keep-requires : goal.keep-requires
keep-requires g c =
    subst (λ (q : Condition). IsSpent q (length c.in_ok-log.log) c.in_ok-log.log) (sym c.in_ok-question.ensures)
    (subst (λ (l : List Step). IsSpent c.args.question.now (length l) l) (sym c.in_ok-log.ensures) c.requires)
