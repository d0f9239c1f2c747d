-- Where the step that comes next is not decided: by a term that is no number, at a place of its
-- decisions.
use Rattle.std.specs.Prelude.{◌≡◌, ℕ, ◌<◌, ◌==◌, true, List, ◌∷◌, ◌++◌, length, None}
use Rattle.bv_dag.specs.Graphs.{number_of}
use Rattle.fork_spec.specs.Decisions.{Decision, Side, Number as Needs, step_decisions}
use Rattle.sym_state.specs.Symbolic.{Symbolic, concrete, known_at, most_decisions, stands_for}
use Rattle.sym_state.specs.Values.{IsUnknown}

-- a decision stands at this place of the step's, behind others that are the same on all assignments
pub record StandsAt (s : Symbolic) (place : ℕ) (decision : List ℕ → Decision) : Type 0 where
  pub front : List Decision
  pub back : List ℕ → List Decision
  pub before : length front ≡ place
  pub is : (input : List ℕ) → stands_for s input ≡ true
      → step_decisions (concrete s input) ≡ front ++ decision input ∷ back input

-- it is decided by a term that is no number, and not known
pub record IsOpenAt (s : Symbolic) (place bits term : ℕ)
    (decision : List ℕ → Decision) : Type 0 where
  pub in_range : place < most_decisions
  pub unknown : known_at s place ≡ None
  pub is_term : IsUnknown s.terms bits term
  pub stands : StandsAt s place decision

-- a conditional branch comes next, and is taken where this term is 1
abbrev pub IsBranch : Symbolic → (term : ℕ) → Type 0
IsBranch s term = IsOpenAt s 1 1 term (λ input. Side (number_of s.terms term input == 1))

-- the step needs the number that this term is
abbrev pub IsPin : Symbolic → (place term : ℕ) → Type 0
IsPin s place term = IsOpenAt s place 32 term (λ input. Needs (number_of s.terms term input))
