-- Lines of clauses that don't show what they are to show: the first of them that may not stand.
use Rattle.std.specs.Prelude.{◌≡◌, ◌⊎◌, ℕ, ◌<◌, ◌≤◌, ◌++◌, ◌∷◌, Bool, true, false, List, length, map}
use Rattle.bv_dag.specs.Inputs.{HasTwo, asserted_inputs}
use Rattle.bv_dag.specs.Queries.{Condition}
use Rattle.cert_form.specs.declared.line.CertLine.{CertLine}
use Rattle.cert_form.specs.declared.line.CertLine.TheVariants.{Clause}
use Rattle.circuit_spec.specs.Circuits.{clauses}
use Rattle.cnf_form.specs.Literals.{Literal}
use Rattle.cnf_form.specs.Propagation.{follows}
use Rattle.cnf_form.specs.Refutations.{Step, clauses_of, ends_empty, follows_all}
use Rattle.cnf_form.specs.Variables.{is_over}
use Rattle.cert_query.specs.Faults.{IsFaultBehind, fault_at}
use Rattle.cert_query.specs.Spending.{are_learnt, is_learnt}
use Rattle.cert_query.specs.declared.fault.Fault.{Fault}
use Rattle.cert_query.specs.declared.fault.Reason.TheVariants.{Log, Query}

-- ---- Clauses that are to refute a formula.

-- behind clauses that follow, one comes that doesn't, or none and the last wasn't empty
abbrev pub IsFollowingFault : (formula : List (List Literal)) → List Step → List CertLine → Fault → Type 0
IsFollowingFault formula log (Clause step ∷ lines) fault =
    (follows (formula ++ clauses_of log) step.clause step.hints ≡ false)
    × (fault ≡ fault_at (Clause step ∷ lines) Log)
IsFollowingFault formula log lines fault =
    (ends_empty log ≡ false) × (fault ≡ fault_at lines Log)

pub record IsRefutingFault (formula : List (List Literal)) (lines : List CertLine)
    (fault : Fault) : Type 0 where
  pub log : List Step
  pub follow : follows_all formula log ≡ true
  pub refused : IsFaultBehind (map Clause log) lines (IsFollowingFault formula log) fault

-- ---- Clauses on which a budget is to be spent.

-- behind clauses that were learnt, one comes that is one too many or may not be learnt, or none and they are too few
abbrev pub IsLearningFault : (over : List Literal → Bool) → (formula : List (List Literal))
    → (budget : ℕ) → List Step → List CertLine → Fault → Type 0
IsLearningFault over formula budget log (Clause step ∷ lines) fault =
    ((length log ≡ budget) ⊎ (is_learnt over (formula ++ clauses_of log) step ≡ false))
    × (fault ≡ fault_at (Clause step ∷ lines) Log)
IsLearningFault over formula budget log lines fault =
    (length log < budget) × (fault ≡ fault_at lines Log)

pub record IsLearntFault (over : List Literal → Bool) (formula : List (List Literal)) (budget : ℕ)
    (lines : List CertLine) (fault : Fault) : Type 0 where
  pub log : List Step
  pub few : length log ≤ budget
  pub learnt : are_learnt over formula log ≡ true
  pub refused : IsFaultBehind (map Clause log) lines (IsLearningFault over formula budget log) fault

-- the question rests on fewer than two bytes, or its clauses are at fault
pub data IsSpendingFault (q : Condition) (budget : ℕ) (lines : List CertLine) (fault : Fault) : Type 0 where
  is_narrow : (HasTwo (asserted_inputs q) → ⊥) → fault ≡ fault_at lines Query
      → IsSpendingFault q budget lines fault
  is_not_learnt : HasTwo (asserted_inputs q)
      → IsLearntFault (is_over (clauses q)) (clauses q) budget lines fault
      → IsSpendingFault q budget lines fault
