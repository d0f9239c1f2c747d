-- Unit propagation under partial assignments, and clauses that follow by reverse unit propagation along hints.
use Rattle.std.specs.Prelude.{ℕ, Bool, false, not, ◌==◌, ◌-◌, List, [], ◌∷◌, Option, Some, None, filter, fold, slice_get, if◌then◌else◌}
use Rattle.std.specs.List.{list_all}
use Rattle.cnf_form.specs.Literals.{Literal, negation, same_truth}

-- A partial assignment says of each variable its value, or that it has none yet.

abbrev pub unassigned : ℕ → Option Bool
unassigned v = None

-- the assignment under which this literal is true too
abbrev pub assign : (ℕ → Option Bool) → Literal → ℕ → Option Bool
assign a l v = if v == l.variable then Some l.positive else a v

abbrev pub has_value : Option Bool → Bool → Bool
has_value None b = false
has_value (Some c) b = same_truth c b

abbrev pub is_true : (ℕ → Option Bool) → Literal → Bool
is_true a l = has_value (a l.variable) l.positive

abbrev pub is_false : (ℕ → Option Bool) → Literal → Bool
is_false a l = has_value (a l.variable) (not l.positive)

-- the assignment under which each literal of a clause is false
unfoldable pub falsify : List Literal → ℕ → Option Bool
falsify c = fold (λ a l. assign a (negation l)) unassigned c

-- whether each literal of a clause is false
unfoldable pub is_falsified : (ℕ → Option Bool) → List Literal → Bool
is_falsified a c = list_all (is_false a) c

-- the literals of a clause that aren't false
unfoldable pub open_literals : (ℕ → Option Bool) → List Literal → List Literal
open_literals a c = filter (λ l. not (is_false a l)) c

-- the only literal of a list, if it isn't true already
abbrev pub only_literal : (ℕ → Option Bool) → List Literal → Option Literal
only_literal a [] = None
only_literal a (l ∷ []) = if is_true a l then None else Some l
only_literal a (l ∷ k ∷ ls) = None

-- what a clause forces: its only literal that isn't false
abbrev pub unit_literal : (ℕ → Option Bool) → List Literal → Option Literal
unit_literal a c = only_literal a (open_literals a c)

-- the clause of a number, from 1
abbrev pub numbered : List (List Literal) → ℕ → Option (List Literal)
numbered clauses n = if n == 0 then None else slice_get clauses (n - 1)

abbrev pub unit_of_hint : (ℕ → Option Bool) → Option (List Literal) → Option Literal
unit_of_hint a None = None
unit_of_hint a (Some c) = unit_literal a c

abbrev pub hint_is_falsified : (ℕ → Option Bool) → Option (List Literal) → Bool
hint_is_falsified a None = false
hint_is_falsified a (Some c) = is_falsified a c

abbrev pub and_then_holds : Option Literal → (Literal → Bool) → Bool
and_then_holds None rest = false
and_then_holds (Some l) rest = rest l

-- whether unit propagation along the hints ends in a conflict: each hint but the last forces one more literal, and
-- the last is a clause whose literals are all false
unfoldable pub reaches_conflict : List (List Literal) → List ℕ → (ℕ → Option Bool) → Bool
reaches_conflict clauses [] a = false
reaches_conflict clauses (h ∷ []) a = hint_is_falsified a (numbered clauses h)
reaches_conflict clauses (h ∷ k ∷ hs) a =
    and_then_holds (unit_of_hint a (numbered clauses h))
    (λ l. reaches_conflict clauses (k ∷ hs) (assign a l))

-- whether a clause follows from others by reverse unit propagation (RUP) along its hints, numbers of the others
unfoldable pub follows : List (List Literal) → List Literal → List ℕ → Bool
follows clauses clause hints = reaches_conflict clauses hints (falsify clause)
