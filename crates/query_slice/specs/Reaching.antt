-- Which asserted terms of a condition matter for one of them.
use Rattle.std.specs.Prelude.{ℕ, Contains}
use Rattle.bv_dag.specs.Graphs.{Graph}
use Rattle.bv_dag.specs.Inputs.{inputs_under}
use Rattle.bv_dag.specs.Queries.{Condition}

-- an input byte stands under both terms
abbrev pub SharesByte : Graph → ℕ → ℕ → Type 0
SharesByte graph a b = (i : ℕ) × Contains (inputs_under graph a) i
    × Contains (inputs_under graph b) i

-- A term that is reached from the new one: it is the new one, or it is asserted and shares an input byte with one that is
-- reached.
pub data IsReached (q : Condition) (new : ℕ) : ℕ → Type 0 where
  itself : IsReached q new new
  sharing : {a b : ℕ} → IsReached q new a → Contains q.asserted b → SharesByte q.graph a b
      → IsReached q new b
