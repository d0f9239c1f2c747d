-- Trails: the literals that are true, in their order, each decided or forced by a clause.
use Rattle.std.specs.Prelude.{◌≡◌, ℕ, ◌+◌, ◌<◌, Bool, true, false, ◌++◌, List, [], ◌∷◌, Option, Some, None, fold, take, length, slice_get, slice_set, slice_index_or}
use Rattle.cnf_form.specs.Literals.{Literal}
use Rattle.cnf_form.specs.Propagation.{unassigned, assign, is_falsified, numbered, unit_of_hint}
use Rattle.cnf_form.specs.Variables.{occurs}
use Rattle.proof_check.specs.Marking.{marked}
use Rattle.cdcl_core.specs.declared.trail.Entry.{Entry}

-- the partial assignment after these entries, where it was `a` before them
abbrev pub assigned : (ℕ → Option Bool) → List Entry → ℕ → Option Bool
assigned a entries = fold (λ b e. assign b e.literal) a entries

-- the partial assignment under which the literals of a trail are true
unfoldable pub trail_values : List Entry → ℕ → Option Bool
trail_values entries = assigned unassigned entries

-- a trail, and the values of the variables by number
pub record Assignment : Type 0 where
  pub marks : List (Option Bool)
  pub entries : List Entry

-- a trail with one more entry
abbrev pub with_entry : Assignment → Entry → Assignment
with_entry t e = record {
  marks = slice_set t.marks e.literal.variable (Some e.literal.positive);
  entries = t.entries ++ e ∷ [];
}

-- the values by number are those of the trail, and each of its variables has the number of its entry, from 1
pub record IsKept (marks : List (Option Bool)) (numbers : List ℕ)
    (entries : List Entry) : Type 0 where
  pub values : marked marks ≡ trail_values entries
  pub room : length numbers ≡ length marks
  pub numbered : (p : ℕ) (e : Entry) → slice_get entries p ≡ Some e
      → slice_index_or numbers e.literal.variable 0 ≡ p + 1

-- no literal that is made true now makes the clause false
abbrev pub IsCalm : (ℕ → Option Bool) → List Literal → Type 0
IsCalm a c = (l : Literal) → a l.variable ≡ None → is_falsified (assign a l) c ≡ false

-- each of the first clauses is calm
abbrev pub AreCalmFirst : ℕ → (ℕ → Option Bool) → List (List Literal) → Type 0
AreCalmFirst n a clauses = (k : ℕ) (c : List Literal) → k < n → slice_get clauses k ≡ Some c
    → IsCalm a c

-- each clause is calm
abbrev pub AreCalm : (ℕ → Option Bool) → List (List Literal) → Type 0
AreCalm a clauses = (k : ℕ) (c : List Literal) → slice_get clauses k ≡ Some c → IsCalm a c

-- what a literal is made true by, after the values `a`: right before a decision each clause is calm, and its variable stands
-- in one of them; else the clause of the entry's number forces it
abbrev pub IsMadeTrue : List (List Literal) → (ℕ → Option Bool) → Literal → Option ℕ → Type 0
IsMadeTrue clauses a l None = AreCalm a clauses × (occurs clauses l.variable ≡ true)
IsMadeTrue clauses a l (Some n) = unit_of_hint a (numbered clauses n) ≡ Some l

-- each entry's variable has no value before it, and each literal is made true by a decision or by its clause
unfoldable pub IsTrailFrom : List (List Literal) → (ℕ → Option Bool) → List Entry → Type 0
IsTrailFrom clauses a [] = Unit {0}
IsTrailFrom clauses a (e ∷ es) = (a e.literal.variable ≡ None)
    × IsMadeTrue clauses a e.literal e.reason × IsTrailFrom clauses (assign a e.literal) es

abbrev pub IsTrail : List (List Literal) → List Entry → Type 0
IsTrail clauses entries = IsTrailFrom clauses unassigned entries

-- the entry at this place is a decision
abbrev pub IsDecisionAt : List Entry → ℕ → Type 0
IsDecisionAt entries p = (e : Entry) × (slice_get entries p ≡ Some e) × (e.reason ≡ None)

-- the clause is calm before each of the first entries
abbrev pub IsCalmBefore : ℕ → List Entry → List Literal → Type 0
IsCalmBefore n entries c = (p : ℕ) → p < n → IsCalm (trail_values (take p entries)) c

-- a literal in front of others, if it was decided
abbrev pub if_decided : Option ℕ → Literal → List Literal → List Literal
if_decided None l ls = l ∷ ls
if_decided (Some n) l ls = ls

-- the literals that were decided, in their order
unfoldable pub decided_literals : List Entry → List Literal
decided_literals [] = []
decided_literals (e ∷ es) = if_decided e.reason e.literal (decided_literals es)

-- a number in front of others, if there is one
abbrev pub if_forced : Option ℕ → List ℕ → List ℕ
if_forced None ns = ns
if_forced (Some n) ns = n ∷ ns

-- the numbers of the clauses that forced literals, in their order
unfoldable pub reasons : List Entry → List ℕ
reasons [] = []
reasons (e ∷ es) = if_forced e.reason (reasons es)

-- how many variables have no value
abbrev pub free_count : List (Option Bool) → ℕ
free_count [] = 0
free_count (None ∷ ms) = free_count ms + 1
free_count (Some b ∷ ms) = free_count ms
