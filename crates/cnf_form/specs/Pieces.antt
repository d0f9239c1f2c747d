-- Clauses in one list: their literals one after the other, each clause up to its end.
use Rattle.std.specs.Prelude.{◌≡◌, ℕ, ◌≤◌, true, List, [], ◌∷◌, length, slice_range}
use Rattle.std.specs.List.{list_all}
use Rattle.cnf_form.specs.Literals.{Literal}
use Rattle.cnf_form.specs.Clauses.{are_increasing}

-- the clauses from this place of the list on, each up to its end
unfoldable pub pieces : (start : ℕ) → (ends : List ℕ) → List Literal → List (List Literal)
pieces start [] ls = []
pieces start (e ∷ es) ls = slice_range ls start e ∷ pieces e es ls

-- the ends rise from this place on, and the last one is the number of literals
unfoldable pub AreEnds : (start : ℕ) → (ends : List ℕ) → (size : ℕ) → Type 0
AreEnds start [] size = start ≡ size
AreEnds start (e ∷ es) size = (start ≤ e) × AreEnds e es size

abbrev pub clauses_in : List Literal → (ends : List ℕ) → List (List Literal)
clauses_in ls ends = pieces 0 ends ls

-- these literals with these ends are clauses, each in the order of its variables
pub record AreClauses (ls : List Literal) (ends : List ℕ) : Type 0 where
  pub rise : AreEnds 0 ends (length ls)
  pub increasing : list_all are_increasing (clauses_in ls ends) ≡ true
