-- The numbers that rows of literals are under a valuation, and the input bytes that it means.
use Rattle.std.specs.Prelude.{◌≡◌, ℕ, ◌+◌, ◌*◌, Bool, true, false, List, [], ◌∷◌, Option, Some, None, map, take, slice_index, slice_index_or}
use Rattle.cnf_form.specs.Literals.{Literal}
use Rattle.cnf_form.specs.Valuations.{literal_value}
use Rattle.bv_dag.specs.Queries.{Condition}
use Rattle.circuit_spec.specs.Circuits.{circuit_of}

abbrev pub bit_of : Bool → ℕ
bit_of true = 1
bit_of false = 0

-- the number whose bits are the values of these literals, the lowest first
unfoldable pub number_of_row : (ℕ → Bool) → List Literal → ℕ
number_of_row v [] = 0
number_of_row v (l ∷ ls) = bit_of (literal_value v l) + 2 * number_of_row v ls

-- what an input byte is, and 0 where it doesn't occur
abbrev pub input_byte : (ℕ → Bool) → Option (List Literal) → ℕ
input_byte v None = 0
input_byte v (Some row) = number_of_row v (take 8 row)

-- the input bytes that a valuation of a condition's formula means
unfoldable pub bytes_of : Condition → (ℕ → Bool) → List ℕ
bytes_of q v = map (input_byte v) (circuit_of q).inputs

-- the valuation means just these input bytes, wherever one occurs
abbrev pub MeansBytes : Condition → (ℕ → Bool) → List ℕ → Type 0
MeansBytes q v input = (i : ℕ) (row : List Literal)
    → slice_index_or (circuit_of q).inputs i None ≡ Some row
    → number_of_row v row ≡ slice_index input i

-- the clauses of a condition, and the literals of each input byte that occurs
pub record Encoding : Type 0 where
  pub formula : List (List Literal)
  pub inputs : List (Option (List Literal))
