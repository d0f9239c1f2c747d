-- What the answer to a question shows.
use Rattle.std.specs.Prelude.{◌≡◌, ℕ, true}
use Rattle.bv_dag.specs.Queries.{Condition, holds, IsUnsatisfiable}
use Rattle.circuit_spec.specs.Budgets.{IsSpent}
use Rattle.query_decide.specs.declared.decision.Decision.{Decision}
use Rattle.query_decide.specs.declared.decision.Decision.TheVariants.{Sat, Unsat, Spent}

-- the answer is right
abbrev pub IsDecided : Condition → (budget : ℕ) → Decision → Type 0
IsDecided q budget (Sat input) = holds q input ≡ true
IsDecided q budget Unsat = IsUnsatisfiable q
IsDecided q budget (Spent log) = IsSpent q budget log
