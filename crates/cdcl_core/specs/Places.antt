-- In which clauses each literal stands.
use Rattle.std.specs.Prelude.{◌≡◌, ℕ, ◌+◌, ◌*◌, ◌==◌, Bool, true, List, [], Some, slice_get, slice_index_or, if◌then◌else◌}
use Rattle.std.specs.List.{list_any}
use Rattle.cnf_form.specs.Literals.{Literal, same_literal}

-- a list for each literal: that of a variable's negation, and then that of the variable
abbrev pub index_of : Literal → ℕ
index_of l = if l.positive then l.variable * 2 + 1 else l.variable * 2

abbrev pub places_of : List (List ℕ) → Literal → List ℕ
places_of lists l = slice_index_or lists (index_of l) []

-- whether a number is one of these
abbrev pub is_among : List ℕ → ℕ → Bool
is_among ks k = list_any (λ j. j == k) ks

-- no place is lost
abbrev pub AreKept : List (List ℕ) → List (List ℕ) → Type 0
AreKept old now = (l : Literal) (k : ℕ) → is_among (places_of old l) k ≡ true
    → is_among (places_of now l) k ≡ true

-- each clause is noted with each of its literals
abbrev pub AreNoted : List (List Literal) → List (List ℕ) → Type 0
AreNoted clauses lists = (k : ℕ) (c : List Literal) (l : Literal) → slice_get clauses k ≡ Some c
    → list_any (same_literal l) c ≡ true → is_among (places_of lists l) k ≡ true
