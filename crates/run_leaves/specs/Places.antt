-- Where the leaf of a run stands in the fork tree: at the run's own place, or on a side of a fork.
use Rattle.std.specs.Prelude.{◌≡◌, ℕ, ◌&&◌, Bool, List, [], ◌∷◌, ◌++◌, Option, Some}
use Rattle.fork_spec.specs.Partings.{Place, place_of}
use Rattle.fork_spec.specs.Parts.{IsRight, Part}
use Rattle.sym_state.specs.Programs.{Program}
use Rattle.sym_state.specs.Symbolic.{Symbolic, stands_for}
use Rattle.tree_core.specs.declared.budgets.Budgets.{Budgets}
use Rattle.tree_core.specs.declared.cause.Cause.{Cause}
use Rattle.tree_core.specs.declared.choice.Choice.{Choice}

-- the place of a run that ends, or that is cut for this cause
abbrev pub end_place : Symbolic → Option Cause → Place
end_place s cut = record { choices = s.choices; covers = stands_for s; cut = cut }

-- the place of the side with this choice, that is cut for this cause: it has those of the run's
-- assignments that pass a test
abbrev pub side_place : Symbolic → Choice → (List ℕ → Bool) → Cause → Place
side_place s choice test cause = record {
  choices = s.choices ++ choice ∷ [];
  covers = λ input. stands_for s input && test input;
  cut = Some cause;
}

-- A part is right for a program, as a side of a fork with these choices, of none where it is no
-- kid, and where there were so many nodes when it was cut for want of them, if it was; and its leaf
-- stands at this place.
pub record IsLeafAt (p : Program) (budgets : Budgets) (sides : List Choice) (nodes : Option ℕ)
    (place : Place) (part : Part) : Type 0 where
  pub right : IsRight p.image p.regions budgets sides nodes part
  pub choices : part.leaf.choices ≡ place.choices
  pub covers : (input : List ℕ) → (place_of part.leaf).covers input ≡ place.covers input
  pub cut : (place_of part.leaf).cut ≡ place.cut
