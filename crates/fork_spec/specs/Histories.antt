-- The history of the leaves of a program: events that make a tree of which they are the leaves, and the split of which a leaf is a side.
use Rattle.std.specs.Prelude.{◌≡◌, ℕ, ◌+◌, ◌<◌, ◌≤◌, ◌==◌, ◌&&◌, Bool, true, false, List, [], ◌∷◌, All, length, map, Option, None, Some, count_by, slice_get, take}
use Rattle.tree_core.specs.declared.cause.Cause.{Cause}
use Rattle.tree_core.specs.declared.cause.Cause.TheVariants.{Nodes}
use Rattle.tree_core.specs.declared.choice.Choice.{Choice}
use Rattle.tree_core.specs.declared.event.Event.{Event}
use Rattle.tree_core.specs.declared.event.Deed.{Deed}
use Rattle.tree_core.specs.declared.event.Deed.TheVariants.{Cut as CutDeed, Release, Split}
use Rattle.tree_core.specs.declared.node.Status.{Status}
use Rattle.tree_core.specs.declared.node.Status.TheVariants.{Leaf as IsLeaf}
use Rattle.fork_spec.specs.Leaves.{Leaf}
use Rattle.fork_spec.specs.Walks.{Bounds, Line, Side, Sides, Standing, is_quiet, sides_of, walk}
use Rattle.fork_spec.specs.declared.end.LeafEnd.{LeafEnd}
use Rattle.fork_spec.specs.declared.end.LeafEnd.TheVariants.{Exits, Traps, Cut}

-- a leaf, and the number of its node in the events
pub record LeafNode : Type 0 where
  pub leaf : Leaf
  pub node : ℕ

-- why a leaf was cut, if it was
abbrev pub cause_of : LeafEnd → Option Cause
cause_of (Exits status) = None
cause_of (Traps trap) = None
cause_of (Cut cause) = Some cause

abbrev pub is_leaf_status : Status → Bool
is_leaf_status IsLeaf = true
is_leaf_status _ = false

abbrev pub is_leaf : Standing → Bool
is_leaf node = is_leaf_status node.status

-- how the node of a leaf stands, by the walk: the leaf's choices lead to it, and it was cut as the leaf was
abbrev pub standing_of : LeafNode → Standing
standing_of l = record { choices = l.leaf.choices; status = IsLeaf; cut = cause_of l.leaf.end }

-- The events are a walk that leaves nothing to be done. Each leaf is one of its leaves, with its choices and its cause, and there are no others.
pub record IsHistory (bounds : Bounds) (lines : List Line)
    (leaves : List LeafNode) : Type 0 where
  pub nodes : List Standing
  pub walked : walk bounds lines ≡ Some nodes
  pub quiet : is_quiet nodes ≡ true
  pub each : All (λ (l : LeafNode). slice_get nodes l.node ≡ Some (standing_of l)) leaves
  pub as_many : count_by is_leaf nodes ≡ length leaves

-- a node is parted into kids with these choices, which are numbered from this node on
abbrev pub IsSplitInto : (first : ℕ) → (choices : List Choice) → Deed (Option Cause) Sides → Type 0
IsSplitInto first choices (Split sides) = (sides.first ≡ first)
    × (map (λ (side : Side). side.choice) sides.sides ≡ choices)
IsSplitInto first choices _ = ⊥

-- one of the events does so
pub record IsParted (lines : List Line) (first : ℕ) (choices : List Choice) : Type 0 where
  pub place : ℕ
  pub line : Line
  pub there : slice_get lines place ≡ Some line
  pub splits : IsSplitInto first choices line.deed

-- the node is a kid of a split into these choices: that of its own split, since the kids of each split get the next numbers
pub record IsSideOf (lines : List Line) (node : ℕ) (choices : List Choice) : Type 0 where
  pub first : ℕ
  pub parted : IsParted lines first choices
  pub not_before : first ≤ node
  pub not_behind : node < first + length choices

-- these are the choices of its own split, and none where it is a side of none
abbrev pub IsOwnSplit : List Line → ℕ → List Choice → Type 0
IsOwnSplit lines node [] = Unit {0}
IsOwnSplit lines node (c ∷ cs) = IsSideOf lines node (c ∷ cs)

-- how many nodes a written deed makes
abbrev pub sides_made : Deed (Option Cause) Sides → ℕ
sides_made deed = length (sides_of deed)

-- how many nodes there are after these events: the root, and the sides of each split
abbrev pub node_count : List Line → ℕ
node_count [] = 1
node_count (line ∷ lines) = sides_made line.deed + node_count lines

-- one of the events cuts this node for want of nodes, where there are so many
pub record IsCutAt (lines : List Line) (node count : ℕ) : Type 0 where
  pub place : ℕ
  pub line : Line
  pub there : slice_get lines place ≡ Some line
  pub of_node : line.node ≡ node
  pub by_nodes : line.deed ≡ CutDeed (Some Nodes)
  pub counted : node_count (take place lines) ≡ count

-- so many nodes there were where this one was cut for want of them, if it was
abbrev pub IsOwnCut : List Line → ℕ → Option ℕ → Type 0
IsOwnCut lines node None = Unit {0}
IsOwnCut lines node (Some count) = IsCutAt lines node count

abbrev pub is_release : {R K : Type 0} → Deed R K → Bool
is_release Release = true
is_release _ = false

-- how many nodes the worker gave up
abbrev pub releases_by : {R K : Type 0} → (by : ℕ) → List (Event R K) → ℕ
releases_by by events = count_by (λ e. (e.by == by) && is_release e.deed) events

-- each worker gave up one node at most: one does so where memory is refused to it, or where it leaves
abbrev pub ReleaseOnce : {R K : Type 0} → List (Event R K) → Type 0
ReleaseOnce events = (by : ℕ) → releases_by by events ≤ 1
