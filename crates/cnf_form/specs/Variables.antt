-- The variables that occur in clauses.
use Rattle.std.specs.Prelude.{ℕ, ◌==◌, Bool, max, nat_lt, List, [], ◌∷◌}
use Rattle.std.specs.List.{list_all, list_any}
use Rattle.cnf_form.specs.Literals.{Literal}

-- the greatest variable of a clause, and 0 where it has no literal
unfoldable pub greatest_in : List Literal → ℕ
greatest_in [] = 0
greatest_in (l ∷ ls) = max l.variable (greatest_in ls)

-- the greatest variable of clauses, and 0 where they have no literal
unfoldable pub greatest_variable : List (List Literal) → ℕ
greatest_variable [] = 0
greatest_variable (c ∷ cs) = max (greatest_in c) (greatest_variable cs)

-- whether each variable of the clause is below n
unfoldable pub is_below : ℕ → List Literal → Bool
is_below n c = list_all (λ l. nat_lt l.variable n) c

-- whether the variable stands in one of the clauses
unfoldable pub occurs : List (List Literal) → ℕ → Bool
occurs clauses v = list_any (λ c. list_any (λ l. l.variable == v) c) clauses

-- whether each variable of the clause stands in one of the clauses
unfoldable pub is_over : List (List Literal) → List Literal → Bool
is_over clauses c = list_all (λ l. occurs clauses l.variable) c
