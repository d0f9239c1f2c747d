-- Lines of clauses on which a budget was spent.
use Rattle.std.specs.Prelude.{◌≡◌, ℕ, ◌++◌, ◌∷◌, ◌&&◌, [], Bool, true, false, not, All, List, length}
use Rattle.cnf_form.specs.Clauses.{IsClause}
use Rattle.cnf_form.specs.Literals.{Literal}
use Rattle.cnf_form.specs.Propagation.{follows}
use Rattle.cnf_form.specs.Refutations.{Step, is_empty_clause, is_new}
use Rattle.bv_dag.specs.Queries.{Condition}
use Rattle.circuit_spec.specs.Budgets.{IsSpent}
use Rattle.cert_form.specs.declared.line.CertLine.{CertLine}
use Rattle.cert_query.specs.Refuting.{AreClauseLines}

-- a budget that was spent on a question, by the clauses that come next, and the lines behind them
pub record IsSpentBy (q : Condition) (budget : ℕ) (lines : List CertLine) (log : List Step) (rest : List CertLine) : Type 0 where
  pub lines_are : AreClauseLines lines log rest
  pub spent : IsSpent q budget log

-- ---- one after the other. Only private functions speak of these

-- whether a step may be learnt: its clause follows, is new, isn't empty, and is over the right variables
abbrev pub is_learnt : (over : List Literal → Bool) → (before : List (List Literal)) → Step → Bool
is_learnt over before s =
    (follows before s.clause s.hints && is_new before s.clause)
    && (not (is_empty_clause s.clause) && over s.clause)

-- whether each step may be learnt after those before it
unfoldable pub are_learnt : (over : List Literal → Bool) → (before : List (List Literal)) → List Step → Bool
are_learnt over before [] = true
are_learnt over before (s ∷ ss) = is_learnt over before s && are_learnt over (before ++ s.clause ∷ []) ss

-- whether the step may be learnt; if so, it is
abbrev pub IsLearnt : (over : List Literal → Bool) → (old new : List (List Literal)) → (log longer : List Step) → Step → Bool → Type 0
IsLearnt over old new log longer step true =
    (is_learnt over old step ≡ true) × (new ≡ old ++ step.clause ∷ []) × (longer ≡ log ++ step ∷ []) × IsClause step.clause
IsLearnt over old new log longer step false = is_learnt over old step ≡ false

-- so many clauses come next, and each may be learnt
pub record HasLearntAll (over : List Literal → Bool) (before : List (List Literal)) (budget : ℕ) (lines : List CertLine) (log : List Step) (rest : List CertLine) : Type 0 where
  pub lines_are : AreClauseLines lines log rest
  pub whole : length log ≡ budget
  pub formed : All (λ (s : Step). IsClause s.clause) log
  pub learnt : are_learnt over before log ≡ true
