-- How two places of the fork tree part: their choices first differ at one fork, and there the runs of what they cover decide as the
-- choices say. No fork is made at no instruction's need.
use Rattle.std.specs.Prelude.{◌≡◌, ◌≢◌, ℕ, ◌&&◌, Bool, true, false, List, ◌∷◌, ◌++◌, IsTrue, Option}
use Rattle.elf_load.specs.Images.{Image}
use Rattle.elf_load.specs.declared.region.Region.{Region}
use Rattle.fork_spec.specs.Decisions.{Decision, Side, Number, decisions}
use Rattle.rv_spec.specs.Memory.{IsAssignment}
use Rattle.tree_core.specs.declared.cause.Cause.{Cause}
use Rattle.tree_core.specs.declared.choice.Choice.{Choice}
use Rattle.tree_core.specs.declared.choice.Choice.TheVariants.{No, Yes, Value, Rest}
use Rattle.fork_spec.specs.Histories.{cause_of}
use Rattle.fork_spec.specs.Leaves.{Leaf, are_bytes, covers}

-- a place of the fork tree: the sides that lead to it, the assignments that it stands for, and why it was cut, if it is a leaf that was
pub record Place : Type 0 where
  pub choices : List Choice
  pub covers : List ℕ → Bool
  pub cut : Option Cause

-- the place of a leaf
abbrev pub place_of : Leaf → Place
place_of leaf = record {
  choices = leaf.choices;
  covers = λ input. are_bytes input
      && covers leaf input;
  cut = cause_of leaf.end;
}

-- the side that a decision takes
abbrev pub side_of : Decision → Choice
side_of (Side false) = No
side_of (Side true) = Yes
side_of (Number n) = Value n

-- a run with this decision is on this side; the rest may be on any
abbrev pub IsOnSide : Choice → Decision → Type 0
IsOnSide No d = side_of d ≡ No
IsOnSide Yes d = side_of d ≡ Yes
IsOnSide (Value v) d = side_of d ≡ Value v
IsOnSide Rest d = Unit {0}

-- the choices first differ in these two
pub record FirstDiffer (cs ds : List Choice) (c d : Choice) : Type 0 where
  pub front : List Choice
  pub one_back : List Choice
  pub other_back : List Choice
  pub one : cs ≡ front ++ c ∷ one_back
  pub other : ds ≡ front ++ d ∷ other_back
  pub differ : c ≢ d

-- two runs' decisions first differ in one place, where the one is on this side, and the other on that
pub record PartAt (c d : Choice) (ones others : List Decision) : Type 0 where
  pub front : List Decision
  pub one_decision : Decision
  pub other_decision : Decision
  pub one_back : List Decision
  pub other_back : List Decision
  pub one : ones ≡ front ++ one_decision ∷ one_back
  pub other : others ≡ front ++ other_decision ∷ other_back
  pub differ : one_decision ≢ other_decision
  pub one_side : IsOnSide c one_decision
  pub other_side : IsOnSide d other_decision

-- where their choices first differ, the runs of any two assignments that they cover part
pub record ArePlacesApart (decides : List ℕ → List Decision) (p q : Place) : Type 0 where
  pub c : Choice
  pub d : Choice
  pub first : FirstDiffer p.choices q.choices c d
  pub part : (a b : List ℕ) → IsTrue (p.covers a) → IsTrue (q.covers b)
      → PartAt c d (decides a) (decides b)

-- two leaves part, by the decisions of at most so many steps
pub record ArePartedLeaves (image : Image) (regions : List Region) (most : ℕ)
    (leaf other : Leaf) : Type 0 where
  pub c : Choice
  pub d : Choice
  pub first : FirstDiffer leaf.choices other.choices c d
  pub part : (a b : List ℕ) → IsAssignment regions a → IsTrue (covers leaf a)
      → IsAssignment regions b → IsTrue (covers other b) →
      PartAt c d (decisions image regions a most) (decisions image regions b most)

-- all assignments that a leaf covers make the same decisions in its steps
abbrev pub DecidesAlike : Image → List Region → Leaf → Type 0
DecidesAlike image regions leaf = (a b : List ℕ) → IsAssignment regions a → IsTrue (covers leaf a)
    → IsAssignment regions b → IsTrue (covers leaf b) →
    decisions image regions a leaf.steps ≡ decisions image regions b leaf.steps
