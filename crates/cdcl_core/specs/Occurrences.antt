-- The variables that were seen in a formula.
use Rattle.std.specs.Prelude.{◌≡◌, ℕ, Bool, true, false, List, slice_index_or}
use Rattle.cnf_form.specs.Literals.{Literal}
use Rattle.cnf_form.specs.Variables.{occurs}

-- each variable that is noted occurs
abbrev pub AreSeen : List (List Literal) → List Bool → Type 0
AreSeen clauses seen = (v : ℕ) → slice_index_or seen v false ≡ true → occurs clauses v ≡ true
