-- What the part of a question shows of the whole.
use Rattle.std.specs.Prelude.{◌≡◌, ℕ, true, List}
use Rattle.bv_dag.specs.Inputs.{asserted_inputs}
use Rattle.bv_dag.specs.Queries.{Condition, holds}
use Rattle.query_slice.specs.Merging.{merged}
use Rattle.query_front.specs.Asks.{with_term}
use Rattle.term_trees.specs.TreeSlices.{IsPartFor}

-- the part of a condition and one more term that matters for that term
pub record IsPartOfQuery (q : Condition) (new : ℕ) (part : Condition) : Type 0 where
  pub cut : IsPartFor (with_term q new) new part
  -- what meets the whole meets the part
  pub less : (input : List ℕ) → holds (with_term q new) input ≡ true → holds part input ≡ true
  -- bytes that meet the condition meet the whole with those of an answer to the part in their places
  pub merges : (sample answer : List ℕ) → holds q sample ≡ true → holds part answer ≡ true
      → holds (with_term q new) (merged (asserted_inputs part) sample answer) ≡ true
