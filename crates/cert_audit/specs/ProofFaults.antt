-- Lines that don't show that a run stands for no assignment: the first of them that may not stand, and why.
use Rattle.std.specs.Prelude.{◌≡◌, ◌⊎◌, ℕ, ◌<◌, true, List, ◌∷◌, ◌++◌, All}
use Rattle.bv_dag.specs.Graphs.{IsDag}
use Rattle.bv_dag.specs.Inputs.{HasTwo, asserted_inputs}
use Rattle.bv_dag.specs.Queries.{AreBits, Condition, holds}
use Rattle.cert_form.specs.declared.line.CertLine.{CertLine}
use Rattle.cert_form.specs.declared.line.CertLine.TheVariants as line
use Rattle.cert_query.specs.ClauseFaults.{IsRefutingFault}
use Rattle.cert_query.specs.Faults.{IsFaultBehind, fault_at}
use Rattle.cert_query.specs.QuestionFaults.{IsQuestionFault}
use Rattle.cert_query.specs.QuestionLines.{question_lines}
use Rattle.cert_query.specs.declared.fault.Fault.{Fault}
use Rattle.cert_query.specs.declared.fault.Reason.TheVariants as reason
use Rattle.circuit_spec.specs.Circuits.{clauses}
use Rattle.term_trees.specs.Subsets.{AsksNoMore}
use Rattle.cert_audit.specs.Asking.{IsLastPart}

-- bytes meet it
pub record IsMet (q : Condition) : Type 0 where
  pub input : List ℕ
  pub bytes : All (λ b. b < 256) input
  pub meets : holds q input ≡ true

-- it rests on two bytes at least, or bytes meet it
abbrev pub IsNotExcluded : Condition → Type 0
IsNotExcluded q = HasTwo (asserted_inputs q) ⊎ IsMet q

-- so is the part of a condition that matters for its last assertion
pub record IsNotTried (q : Condition) : Type 0 where
  pub part : Condition
  pub is_part : IsLastPart q part
  pub not_excluded : IsNotExcluded part

-- its terms fit, and it asserts bits
pub record IsWellFormed (q : Condition) : Type 0 where
  pub dag : IsDag q.graph
  pub bits : AreBits q.graph q.asserted

-- a question that asks no more than the condition, and clauses that refute it
pub data IsRefutedFault (q : Condition) (lines : List CertLine) (fault : Fault) : Type 0 where
  in_question : IsQuestionFault lines fault → IsRefutedFault q lines fault
  asks_more : (asked : Condition) (rest : List CertLine) → IsWellFormed asked
      → lines ≡ question_lines asked ++ rest → (AsksNoMore asked q → ⊥)
      → fault ≡ fault_at lines reason.Query → IsRefutedFault q lines fault
  in_clauses : (asked : Condition) → IsWellFormed asked → AsksNoMore asked q
      → IsFaultBehind (question_lines asked) lines (IsRefutingFault (clauses asked)) fault
      → IsRefutedFault q lines fault

abbrev pub IsProofFault : Condition → List CertLine → Fault → Type 0
IsProofFault q (line.Tried ∷ lines) fault =
    IsNotTried q × (fault ≡ fault_at (line.Tried ∷ lines) reason.Tried)
IsProofFault q lines fault = IsRefutedFault q lines fault
