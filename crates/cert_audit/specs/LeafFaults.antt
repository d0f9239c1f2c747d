-- Lines that make no leaf of what the walk comes to: the first of them that may not stand, and why.
use Rattle.std.specs.Prelude.{◌≡◌, ◌≢◌, ℕ, false, List, [], ◌∷◌, ◌++◌, All, length, map}
use Rattle.bv_dag.specs.Queries.{Condition}
use Rattle.cert_form.specs.declared.line.CertLine.{CertLine}
use Rattle.cert_form.specs.declared.line.CertLine.TheVariants.{CutSteps, End, Value, Witness}
use Rattle.cert_query.specs.ClauseFaults.{IsSpendingFault}
use Rattle.cert_query.specs.Faults.{IsFaultBehind, fault_at}
use Rattle.cert_query.specs.QuestionFaults.{IsQuestionFault}
use Rattle.cert_query.specs.QuestionLines.{question_lines}
use Rattle.cert_query.specs.declared.fault.Fault.{Fault}
use Rattle.cert_query.specs.declared.fault.Reason.TheVariants.{Budget, Place, Query, Sample}
use Rattle.fork_spec.specs.Evidence.{Found, values_of}
use Rattle.run_leaves.specs.Values.{HasValue}
use Rattle.sym_state.specs.Symbolic.{Symbolic, stands_for}
use Rattle.cert_audit.specs.Asking.{AskTheSame, IsLastPart}
use Rattle.cert_audit.specs.ProofFaults.{IsWellFormed}
use Rattle.cert_audit.specs.declared.todo.Others.{Others}

-- ---- Nodes.

-- a run that has ended: one of its assignments is named
abbrev pub IsEndFault : Symbolic → List CertLine → Fault → Type 0
IsEndFault s (End input ∷ lines) fault =
    (stands_for s input ≡ false) × (fault ≡ fault_at (End input ∷ lines) Sample)
IsEndFault s lines fault = fault ≡ fault_at lines Place

-- a run that has spent its steps: the same
abbrev pub IsStepsFault : Symbolic → List CertLine → Fault → Type 0
IsStepsFault s (CutSteps input ∷ lines) fault =
    (stands_for s input ≡ false) × (fault ≡ fault_at (CutSteps input ∷ lines) Sample)
IsStepsFault s lines fault = fault ≡ fault_at lines Place

-- ---- A side of all values but some, of which there are as many as there may be.

-- a value of a term of a run, with an assignment on which the term has it
abbrev pub IsValueFault : Symbolic → (term value : ℕ) → List CertLine → Fault → Type 0
IsValueFault s term value (Value found ∷ lines) fault =
    (found.value ≡ value → HasValue s term found → ⊥)
    × (fault ≡ fault_at (Value found ∷ lines) Sample)
IsValueFault s term value lines fault = fault ≡ fault_at lines Place

-- these values in their order
pub record IsValuesFault (s : Symbolic) (term : ℕ) (values : List ℕ) (lines : List CertLine)
    (fault : Fault) : Type 0 where
  pub found : List Found
  pub value : ℕ
  pub others : List ℕ
  pub values_are : values ≡ values_of found ++ value ∷ others
  pub each : All (HasValue s term) found
  pub refused : IsFaultBehind (map Value found) lines (IsValueFault s term value) fault

-- an assignment of a run
abbrev pub IsWitnessFault : Symbolic → List CertLine → Fault → Type 0
IsWitnessFault s (Witness input ∷ lines) fault =
    (stands_for s input ≡ false) × (fault ≡ fault_at (Witness input ∷ lines) Sample)
IsWitnessFault s lines fault = fault ≡ fault_at lines Place

-- the values, and an assignment of the side
pub data IsTargetsFault (others : Others) (targets : ℕ) (lines : List CertLine)
    (fault : Fault) : Type 0 where
  is_not_spent : length others.values.items ≢ targets → fault ≡ fault_at lines Budget
      → IsTargetsFault others targets lines fault
  in_values : length others.values.items ≡ targets
      → IsValuesFault others.fork others.term others.values.items lines fault
      → IsTargetsFault others targets lines fault
  in_witness : length others.values.items ≡ targets → (found : List Found)
      → values_of found ≡ others.values.items → All (HasValue others.fork others.term) found
      → IsFaultBehind (map Value found) lines (IsWitnessFault others.rest) fault
      → IsTargetsFault others targets lines fault

-- ---- A side of which the budget of conflicts leaves open whether it has an assignment: the question of its last assertion, and
-- clauses learnt for it.
pub data IsConflictsFault (q : Condition) (conflicts : ℕ) (lines : List CertLine)
    (fault : Fault) : Type 0 where
  asks_nothing : q.asserted ≡ [] → fault ≡ fault_at lines Place
      → IsConflictsFault q conflicts lines fault
  asks_no_question : IsQuestionFault lines fault → IsConflictsFault q conflicts lines fault
  asks_another : (part asked : Condition) (rest : List CertLine) → IsLastPart q part
      → IsWellFormed asked → lines ≡ question_lines asked ++ rest → (AskTheSame part asked → ⊥)
      → fault ≡ fault_at lines Query → IsConflictsFault q conflicts lines fault
  is_not_open : (part asked : Condition) → IsLastPart q part → IsWellFormed asked
      → AskTheSame part asked
      → IsFaultBehind (question_lines asked) lines (IsSpendingFault asked conflicts) fault
      → IsConflictsFault q conflicts lines fault
