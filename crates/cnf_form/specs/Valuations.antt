-- Valuations, and what they satisfy.
use Rattle.std.specs.Prelude.{ℕ, Bool, false, List, slice_index_or}
use Rattle.std.specs.List.{list_any, list_all}
use Rattle.cnf_form.specs.Literals.{Literal, same_truth}

-- whether a literal is true under a valuation, a truth value for each variable
abbrev pub literal_value : (ℕ → Bool) → Literal → Bool
literal_value v l = same_truth (v l.variable) l.positive

-- whether one of a clause's literals is true
unfoldable pub satisfies_clause : (ℕ → Bool) → List Literal → Bool
satisfies_clause v c = list_any (literal_value v) c

-- whether each clause of a formula is satisfied
unfoldable pub satisfies : (ℕ → Bool) → List (List Literal) → Bool
satisfies v f = list_all (satisfies_clause v) f

-- the valuation that a list gives: the variable k has the value at place k, and those past its end are false
abbrev pub valuation : List Bool → ℕ → Bool
valuation values k = slice_index_or values k false
