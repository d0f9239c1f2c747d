-- What clauses are under a partial assignment, and what looking at them comes to.
use Rattle.std.specs.Prelude.{◌≡◌, ℕ, ◌+◌, ◌<◌, ◌≤◌, ◌⊎◌, length, Bool, true, List, Option, Some, None, slice_get}
use Rattle.std.specs.List.{list_any, list_all}
use Rattle.cnf_form.specs.Literals.{Literal, negation, same_literal}
use Rattle.cnf_form.specs.Propagation.{is_true, is_falsified, unit_literal, numbered, hint_is_falsified}
use Rattle.cnf_form.specs.Variables.{occurs}
use Rattle.cdcl_core.specs.declared.trail.Entry.{Entry}
use Rattle.cdcl_core.specs.declared.propagation.State.{State}
use Rattle.cdcl_core.specs.declared.propagation.State.TheVariants.{Falsified, Forces, Open, Satisfied}
use Rattle.cdcl_core.specs.declared.descent.Settled.{Settled}
use Rattle.cdcl_core.specs.declared.descent.Settled.TheVariants.{AtConflict, AtChoice, AtEnd}
use Rattle.cdcl_core.specs.Trails.{Assignment, trail_values, IsTrail, IsCalm, AreCalm, free_count}

-- a literal of a variable below n that has no value
abbrev pub IsFree : (ℕ → Option Bool) → ℕ → Literal → Type 0
IsFree a n l = (l.variable < n) × (a l.variable ≡ None)

-- some literal of the clause is true
abbrev pub has_true : (ℕ → Option Bool) → List Literal → Bool
has_true a c = list_any (is_true a) c

-- what a clause is under a partial assignment of variables below n
abbrev pub IsState : (ℕ → Option Bool) → ℕ → List Literal → State → Type 0
IsState a n c Falsified = is_falsified a c ≡ true
IsState a n c (Forces l) = (unit_literal a c ≡ Some l) × IsFree a n l
    × (list_any (same_literal l) c ≡ true)
IsState a n c (Open l) = IsCalm a c × IsFree a n l × (list_any (same_literal l) c ≡ true)
IsState a n c Satisfied = has_true a c ≡ true

-- the entry at this place makes the literal true
abbrev pub IsLiteralAt : List Entry → ℕ → Literal → Type 0
IsLiteralAt entries place l = (entry : Entry) × (slice_get entries place ≡ Some entry)
    × (entry.literal ≡ l)

-- an entry from this place on makes a literal of the clause false
pub record IsTouched (entries : List Entry) (first : ℕ) (c : List Literal) : Type 0 where
  pub place : ℕ
  pub entry : Entry
  pub late : first ≤ place
  pub there : slice_get entries place ≡ Some entry
  pub has : list_any (same_literal (negation entry.literal)) c ≡ true

-- each clause is calm, or has yet to be looked at: for an entry from this place on, or since it is one of those to come
abbrev pub ArePending : List (List Literal) → List Entry → (first : ℕ) → (to_come : ℕ → Bool)
    → Type 0
ArePending clauses entries first to_come = (k : ℕ) (c : List Literal) → slice_get clauses k ≡ Some c
    → IsCalm (trail_values entries) c ⊎ IsTouched entries first c ⊎ (to_come k ≡ true)

-- where unit propagation ends: at a clause that is false, at a choice of a variable that occurs, with each clause calm, or
-- with each satisfied
abbrev pub IsSettled : List (List Literal) → ℕ → (ℕ → Option Bool) → Settled → Type 0
IsSettled clauses n a (AtConflict k) = hint_is_falsified a (numbered clauses k) ≡ true
IsSettled clauses n a (AtChoice l) = AreCalm a clauses × IsFree a n l
    × (occurs clauses l.variable ≡ true)
IsSettled clauses n a AtEnd = list_all (has_true a) clauses ≡ true

-- a trail went on from another: it is a trail still, and each further entry gave a variable a value
pub record IsFollowed (clauses : List (List Literal)) (old now : Assignment) : Type 0 where
  pub trail : IsTrail clauses now.entries
  pub size : length now.marks ≡ length old.marks
  pub longer : length old.entries ≤ length now.entries
  pub no_more : length now.entries + free_count now.marks
      ≤ length old.entries + free_count old.marks
