-- What is answered to the question whether a condition and one more term can hold.
use Rattle.std.specs.Prelude.{◌≡◌, ℕ, true, [], ◌∷◌, ◌++◌}
use Rattle.bv_dag.specs.Graphs.{IsDag}
use Rattle.bv_dag.specs.Queries.{AreBits, Condition, holds, IsUnsatisfiable}
use Rattle.circuit_spec.specs.Budgets.{IsSpent}
use Rattle.term_trees.specs.TreeSlices.{IsPartFor}
use Rattle.query_front.specs.declared.asked.Asked.{Asked}
use Rattle.query_front.specs.declared.asked.Asked.TheVariants.{Sat, Unsat, Spent}

-- a condition with one more term
abbrev pub with_term : Condition → ℕ → Condition
with_term q new = record { graph = q.graph; asserted = q.asserted ++ new ∷ [] }

-- the answer is true of the whole condition with the term
abbrev pub IsAsked : Condition → (new budget : ℕ) → Asked → Type 0
IsAsked q new budget (Sat input) = holds (with_term q new) input ≡ true
IsAsked q new budget Unsat = IsUnsatisfiable (with_term q new)
IsAsked q new budget (Spent part log) =
    IsDag part.graph × AreBits part.graph part.asserted × IsPartFor (with_term q new) new part
    × IsSpent part budget log
