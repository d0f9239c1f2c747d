-- What is kept of questions on which a budget was spent.
use Rattle.std.specs.Prelude.{List, All, length}
use Rattle.bv_dag.specs.Queries.{Condition}
use Rattle.circuit_spec.specs.Budgets.{IsSpent}
use Rattle.cnf_form.specs.Refutations.{Step}

-- questions, each with the clauses that were learnt for it
abbrev pub KeptLogs : Type 0
KeptLogs = List (Condition × List Step)

-- each was spent on, with as many clauses as are kept
abbrev pub AreSpent : KeptLogs → Type 0
AreSpent kept = All (λ (e : Condition × List Step). IsSpent e.0 (length e.1) e.1) kept
