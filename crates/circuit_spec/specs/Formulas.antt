-- Formulas while they are made: their variables and clauses.
use Rattle.std.specs.Prelude.{ℕ, ◌+◌, Bool, true, List, [], ◌∷◌, ◌++◌, Option, Some, None}
use Rattle.cnf_form.specs.Literals.{Literal}
use Rattle.cnf_form.specs.Clauses.{clause_of}

-- clauses over the variables from 1 to `variables`
pub record Formula : Type 0 where
  pub variables : ℕ
  pub clauses : List (List Literal)

-- Variable 1 is true, so its literals are the two truth values.
abbrev pub constant : Bool → Literal
constant value = record { variable = 1; positive = value }

-- the variable with the next number
abbrev pub next_variable : Formula → Literal
next_variable f = record { variable = f.variables + 1; positive = true }

abbrev pub with_variable : Formula → Formula
with_variable f = record { variables = f.variables + 1; clauses = f.clauses }

abbrev pub with_kept : Option (List Literal) → Formula → Formula
with_kept None f = f
with_kept (Some c) f = record { variables = f.variables; clauses = f.clauses ++ c ∷ [] }

-- the formula with the clause of these literals behind the others, unless it is always true
unfoldable pub with_clause : List Literal → Formula → Formula
with_clause ls f = with_kept (clause_of ls) f

abbrev pub with_clauses : List (List Literal) → Formula → Formula
with_clauses [] f = f
with_clauses (c ∷ cs) f = with_clauses cs (with_clause c f)

-- one variable, and a clause that says that it is true
unfoldable pub only_truth : Formula
only_truth = with_clause (constant true ∷ []) (record { variables = 1; clauses = [] })
