-- What was learnt for the last assertion of a condition.
use Rattle.std.specs.Prelude.{◌≡◌, ℕ, List, [], ◌∷◌, ◌++◌}
use Rattle.circuit_spec.specs.Budgets.{IsSpent}
use Rattle.bv_dag.specs.Graphs.{IsDag}
use Rattle.bv_dag.specs.Queries.{AreBits, Condition}
use Rattle.fork_spec.specs.Evidence.{Learnt}
use Rattle.term_trees.specs.TreeSlices.{IsPartFor}

-- the budget of conflicts was spent on the part of the condition that matters for its last assertion, whose terms fit
pub record IsLearntFor (conflicts : ℕ) (q : Condition) (learnt : Learnt) : Type 0 where
  pub front : List ℕ
  pub last : ℕ
  pub asserted : q.asserted ≡ front ++ last ∷ []
  pub is_dag : IsDag learnt.question.graph
  pub bits : AreBits learnt.question.graph learnt.question.asserted
  pub part : IsPartFor q last learnt.question
  pub spent : IsSpent learnt.question conflicts learnt.log
