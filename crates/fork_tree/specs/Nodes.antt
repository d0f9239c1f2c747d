-- What nodes have to hold, by how they stand.
use Rattle.std.specs.Prelude.{◌≡◌, ℕ, ◌<◌, Option, Some, List, length}
use Rattle.std.specs.Arc.{arc_value}
use Rattle.tree_core.specs.Stories.{Story, content, status}
use Rattle.tree_core.specs.declared.choice.Choice.{Choice}
use Rattle.tree_core.specs.declared.node.Status.{Status}
use Rattle.tree_core.specs.declared.node.Status.TheVariants.{Free, Held, Parted, Leaf}
use Rattle.fork_spec.specs.Histories.{IsOwnCut, IsOwnSplit}
use Rattle.fork_spec.specs.Partings.{Place}
use Rattle.fork_spec.specs.Walks.{Line}
use Rattle.fork_tree.specs.Written.{lines_of}
use Rattle.fork_tree.specs.Contents.{cut_in}
use Rattle.fork_tree.specs.Works.{Rules}
use Rattle.fork_tree.specs.declared.content.Content.{Content}
use Rattle.fork_tree.specs.declared.content.Content.TheVariants.{Open, Shut}

module _ {S L : Type 0} where
  -- there is a state, and it is such a one
  abbrev pub HasState : (S → Type 0) → Option (Content S L) → Type 0
  HasState such (Some (Open a)) = such (arc_value a)
  HasState such _ = ⊥

  -- there is a leaf, and it is such a one
  abbrev pub HasLeaf : (L → Type 0) → Option (Content S L) → Type 0
  HasLeaf such (Some (Shut l)) = such l
  HasLeaf such _ = ⊥

  -- the content is this state
  abbrev pub StateIs : Option (Content S L) → S → Type 0
  StateIs c s = HasState (λ x. x ≡ s) c

  -- a node that stands so holds what it has to: a state where it is free or held, and a leaf where
  -- it is a leaf
  abbrev pub HoldsFor : (well : S → Type 0) → (right : L → Type 0) → Status →
      Option (Content S L) → Type 0
  HoldsFor well right Free c = HasState well c
  HoldsFor well right (Held by) c = HasState well c
  HoldsFor well right Parted c = Unit {0}
  HoldsFor well right Leaf c = HasLeaf right c

  -- a leaf at this node is right as a side of the node's own split, and where it was cut
  pub record IsRightAt (rules : Rules S L) (lines : List Line) (node : ℕ) (leaf : L) : Type 0 where
    pub sides : List Choice
    pub own : IsOwnSplit lines node sides
    pub nodes : Option ℕ
    pub own_cut : IsOwnCut lines node nodes
    pub right : rules.IsRight sides nodes leaf

  -- a leaf of the story is right at its node
  abbrev pub IsLeafRight : Rules S L → (S → Place) → (L → Place) → Story (Content S L) → ℕ → L
      → Type 0
  IsLeafRight rules state_place leaf_place s node leaf =
      IsRightAt rules (lines_of (cut_in state_place leaf_place) s) node leaf

  -- each node holds what it has to: a state that is well, or a leaf that is right
  abbrev pub AllHold : Rules S L → (S → Place) → (L → Place) → Story (Content S L) → Type 0
  AllHold rules state_place leaf_place s = (m : ℕ) → m < length s.nodes →
      HoldsFor rules.IsWell (IsLeafRight rules state_place leaf_place s m) (status s m) (content s m)
