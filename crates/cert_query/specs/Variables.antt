-- The variables that occur in a formula, as a list has them. Only private functions speak of this.
use Rattle.std.specs.Prelude.{◌≡◌, ℕ, Bool, false, List, slice_index_or}
use Rattle.std.specs.List.{list_all}
use Rattle.cnf_form.specs.Literals.{Literal}
use Rattle.cnf_form.specs.Variables.{occurs}

-- whether a variable is noted
abbrev pub is_noted : List Bool → ℕ → Bool
is_noted seen v = slice_index_or seen v false

-- whether each variable of a clause is noted
abbrev pub are_noted : List Bool → List Literal → Bool
are_noted seen c = list_all (λ l. is_noted seen l.variable) c

-- just those are noted that occur
abbrev pub AreOccurring : List (List Literal) → List Bool → Type 0
AreOccurring clauses seen = (v : ℕ) → is_noted seen v ≡ occurs clauses v
