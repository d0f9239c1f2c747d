-- What lines show of the question that a side of a fork is cut for.
use Rattle.std.specs.Prelude.{◌≡◌, ℕ, List, [], ◌∷◌, ◌++◌, map}
use Rattle.bv_dag.specs.Queries.{Condition}
use Rattle.cert_form.specs.declared.line.CertLine.{CertLine}
use Rattle.cert_form.specs.declared.line.CertLine.TheVariants.{Clause}
use Rattle.cert_query.specs.QuestionLines.{question_lines}
use Rattle.fork_spec.specs.Evidence.{Learnt}
use Rattle.run_leaves.specs.Learning.{IsLearntFor}
use Rattle.term_trees.specs.Subsets.{AsksNoMore}
use Rattle.term_trees.specs.TreeSlices.{IsPartFor}

-- the part of a condition that matters for its last assertion
pub record IsLastPart (q part : Condition) : Type 0 where
  pub front : List ℕ
  pub last : ℕ
  pub asserted : q.asserted ≡ front ++ last ∷ []
  pub matters : IsPartFor q last part

-- it is asserted last
abbrev pub IsLast : List ℕ → ℕ → Type 0
IsLast asserted last = (front : List ℕ) × (asserted ≡ front ++ last ∷ [])

-- each asks no more than the other
pub record AskTheSame (one other : Condition) : Type 0 where
  pub one_less : AsksNoMore one other
  pub other_less : AsksNoMore other one

-- the first of some lines show what was learnt for the last assertion of a condition
pub record IsLearntIn (q : Condition) (conflicts : ℕ) (lines : List CertLine) (learnt : Learnt)
    (rest : List CertLine) : Type 0 where
  pub learning : IsLearntFor conflicts q learnt
  pub split : lines ≡ question_lines learnt.question ++ (map Clause learnt.log ++ rest)
