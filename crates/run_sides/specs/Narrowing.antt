-- Symbolic runs on one side of a fork.
use Rattle.std.specs.Prelude.{◌≡◌, ℕ, ◌&&◌, ◌<◌, Bool, List, [], ◌∷◌, ◌++◌, None, Some}
use Rattle.sym_state.specs.Programs.{Program}
use Rattle.sym_state.specs.Runs.{IsOpen, left_to_do}
use Rattle.sym_state.specs.Symbolic.{Symbolic, IsTrulyKnown, known_at, most_decisions, stands_for}
use Rattle.sym_state.specs.declared.decided.Decided.{Decided}
use Rattle.tree_core.specs.declared.choice.Choice.{Choice}

-- A run on one side of a fork: it stands for those assignments of the run before it that pass a
-- test, is a run of each program that the run before it is one of, and has less to do.
pub record IsNarrower (old new : Symbolic) (choice : Choice) (test : List ℕ → Bool) : Type 0 where
  pub is_open : (p : Program) → IsOpen p old → IsOpen p new
  pub inputs : new.terms.inputs ≡ old.terms.inputs
  pub choices : new.choices ≡ old.choices ++ choice ∷ []
  pub steps : new.steps ≡ old.steps
  pub less : left_to_do new < left_to_do old
  pub covers : (input : List ℕ) → stands_for new input ≡ (stands_for old input && test input)

-- This decision of the step that comes next is not known yet, and is this one on all assignments.
pub record IsForced (s : Symbolic) (place : ℕ) (d : Decided) : Type 0 where
  pub in_range : place < most_decisions
  pub unknown : known_at s place ≡ None
  pub settled : IsTrulyKnown s place (Some d)
