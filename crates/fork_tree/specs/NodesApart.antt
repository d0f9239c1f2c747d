-- Nodes of a fork tree that have no kids are apart, and what an event makes of a node keeps them so.
use Rattle.std.specs.Prelude.{◌≡◌, ◌≢◌, ℕ, ◌<◌, true, List, ◌++◌, All, IsTrue, Some, length, slice_get}
use Rattle.std.specs.Global.{Vec}
use Rattle.fork_spec.specs.Decisions.{Decision}
use Rattle.tree_core.specs.declared.choice.Choice.{Choice}
use Rattle.tree_core.specs.Covers.{is_live}
use Rattle.tree_core.specs.Stories.{Story, content, status}
use Rattle.tree_core.specs.declared.event.Deed.{Deed}
use Rattle.tree_core.specs.declared.event.Deed.TheVariants.{Claim, Split, Finish, Cut, Release}
use Rattle.tree_core.specs.declared.event.Kid.{Kid}
use Rattle.fork_spec.specs.Partings.{ArePlacesApart, Place}

-- the one is somewhere under the other: it has the other's choices and maybe more, and stands for none but its assignments
pub record IsBelow (p q : Place) : Type 0 where
  pub more : List Choice
  pub choices : p.choices ≡ q.choices ++ more
  pub within : (input : List ℕ) → IsTrue (p.covers input) → IsTrue (q.covers input)

-- any two of these kids are apart
abbrev pub AreKidsApart : {R : Type 0} → (place : R → Place) → (List ℕ → List Decision)
    → List (Kid R) → Type 0
AreKidsApart {R} place decides kids = (i j : ℕ) (a b : Kid R) → i ≢ j → slice_get kids i ≡ Some a
    → slice_get kids j ≡ Some b →
    ArePlacesApart decides (place a.content) (place b.content)

-- any two nodes of a story that have no kids are apart
abbrev pub AreNodesApart : {R : Type 0} → (place : R → Place) → (List ℕ → List Decision) → Story R
    → Type 0
AreNodesApart {R} place decides s = (m k : ℕ) (a b : R) → m ≢ k → m < length s.nodes
    → k < length s.nodes →
    is_live (status s m) ≡ true → is_live (status s k) ≡ true → content s m ≡ Some a
    → content s k ≡ Some b →
    ArePlacesApart decides (place a) (place b)

-- what a deed makes of a node with this content is under it, and kids are apart
abbrev pub KeepsApart : {R : Type 0} → (place : R → Place) → (List ℕ → List Decision) → R
    → Deed R (Vec (Kid R)) → Type 0
KeepsApart place decides r Claim = Unit {0}
KeepsApart {R} place decides r (Split kids) =
    All (λ (kid : Kid R). IsBelow (place kid.content) (place r)) kids.items
    × AreKidsApart place decides kids.items
KeepsApart place decides r (Finish leaf) = IsBelow (place leaf) (place r)
KeepsApart place decides r (Cut leaf) = IsBelow (place leaf) (place r)
KeepsApart place decides r Release = Unit {0}
