-- What the loop makes of a tree, and how much is left to it.
use Rattle.std.specs.Prelude.{◌≡◌, ℕ, zero, suc, ◌+◌, ◌<◌, ◌≤◌, ◌^◌, Bool, ◌&&◌, Option, Some, List, ◌++◌, length}
use Rattle.std.specs.List.{All}
use Rattle.std.specs.Arc.{arc_value}
use Rattle.tree_core.specs.Stories.{Story, status, content}
use Rattle.tree_core.specs.Covers.{one_if, count_below, covered, root_content}
use Rattle.tree_core.specs.declared.event.Event.{Event}
use Rattle.tree_core.specs.Nodes.{Node}
use Rattle.tree_core.specs.declared.node.Status.{Status}
use Rattle.tree_core.specs.declared.node.Status.TheVariants.{Free, Leaf as IsLeaf}
use Rattle.fork_spec.specs.Histories.{LeafNode, cause_of, is_leaf_status}
use Rattle.fork_spec.specs.Leaves.{Leaf}
use Rattle.fork_spec.specs.Partings.{Place}
use Rattle.fork_tree.specs.NodesApart.{AreNodesApart}
use Rattle.fork_tree.specs.Written.{IsWalked}
use Rattle.fork_tree.specs.Calls.{IsQuiet}
use Rattle.fork_tree.specs.Contents.{cut_in, place_in}
use Rattle.fork_tree.specs.Nodes.{HasLeaf, IsLeafRight}
use Rattle.fork_tree.specs.Trees.{choices_at, covers_at}
use Rattle.fork_tree.specs.Works.{Rules}
use Rattle.fork_tree.specs.declared.content.Content.{Content}
use Rattle.fork_tree.specs.declared.content.Content.TheVariants.{Open, Shut}

-- the sum of the first so many
abbrev pub sum_below : (ℕ → ℕ) → ℕ → ℕ
sum_below f zero = 0
sum_below f (suc n) = sum_below f n + f n

module _ {S L : Type 0} where
  -- a state weighs as much as all that may come of it: a power of one more than the most kids of a
  -- fork
  abbrev pub weight : Rules S L → Option (Content S L) → ℕ
  weight rules (Some (Open a)) = (rules.targets + 2) ^ rules.left (arc_value a)
  weight rules _ = 0

  -- a free node weighs what its state does, and any other nothing
  abbrev pub heft : Rules S L → Status → Option (Content S L) → ℕ
  heft rules Free c = weight rules c
  heft rules _ c = 0

  -- what all free nodes weigh
  abbrev pub fuel : Rules S L → Story (Content S L) → ℕ
  fuel rules s = sum_below (λ m. heft rules (status s m) (content s m)) (length s.nodes)

-- the second story goes on from the first by nodes, and by events of this worker alone
abbrev pub GrowsBy : {R : Type 0} → ℕ → Story R → Story R → Type 0
GrowsBy {R} by s t =
    (nodes : List (Node R)) × (events : List (Event R ℕ)) × (t.nodes ≡ s.nodes ++ nodes)
    × (t.events ≡ s.events ++ events) × All (λ (e : Event R ℕ). e.by ≡ by) events

-- how many nodes are leaves
abbrev pub leaf_nodes : {R : Type 0} → Story R → ℕ
leaf_nodes s = count_below (λ m. is_leaf_status (status s m)) (length s.nodes)

-- how many leaves cover the assignment
abbrev pub leaf_count : {R : Type 0} → (R → List ℕ → Bool) → Story R → List ℕ → ℕ
leaf_count covers s input =
    count_below (λ m. is_leaf_status (status s m) && covered covers (content s m) input)
    (length s.nodes)

-- No node is free or held: each assignment that the root stands for is covered by exactly one leaf,
-- and any other by none; each leaf is right as a side of its own split; what is written is a walk
-- that leads to these nodes; the leaves, which alone have no kids, part by a decision; and there are
-- no more nodes than the budget and the further kids of one split.
pub record IsDrained {S L : Type 0} (rules : Rules S L) (state_place : S → Place)
    (leaf_place : L → Place) (s : Story (Content S L)) : Type 0 where
  pub quiet : IsQuiet s
  pub one : (input : List ℕ) →
      leaf_count (covers_at state_place leaf_place) s input
      ≡ one_if (covered (covers_at state_place leaf_place) (root_content s) input)
  pub leaves : (m : ℕ) → m < length s.nodes → status s m ≡ IsLeaf →
      HasLeaf (IsLeafRight rules state_place leaf_place s m) (content s m)
  pub walked : IsWalked (choices_at state_place leaf_place) (cut_in state_place leaf_place)
      rules.targets rules.nodes rules.order s
  pub apart : AreNodesApart (place_in state_place leaf_place) rules.decides s
  pub bounded : length s.nodes ≤ rules.nodes + rules.targets
  pub few : length s.nodes < 2 ^ 32

-- the entry is of a leaf of the tree: its node is a leaf, and of what that holds this leaf is read
pub record IsLeafOf {S L : Type 0} (leaf_of : L → Leaf) (s : Story (Content S L))
    (entry : LeafNode) : Type 0 where
  pub is_leaf : status s entry.node ≡ IsLeaf
  pub held : L
  pub is_held : content s entry.node ≡ Some (Shut held)
  pub same : leaf_of held ≡ entry.leaf

-- what is read of a worker's leaf tells the choices that lead to it, and why it was cut
pub record Reads {L : Type 0} (leaf_place : L → Place) (leaf_of : L → Leaf) : Type 0 where
  pub choices : (l : L) → (leaf_place l).choices ≡ (leaf_of l).choices
  pub cause : (l : L) → (leaf_place l).cut ≡ cause_of (leaf_of l).end
