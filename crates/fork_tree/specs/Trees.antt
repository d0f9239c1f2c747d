-- A tree as a story with room for more, and what its fields keep.
use Rattle.std.specs.Prelude.{ℕ, ◌+◌, ◌<◌, ◌≤◌, ◌^◌, Bool, List, length}
use Rattle.tree_core.specs.Replays.{Replays}
use Rattle.tree_core.specs.Stories.{Story}
use Rattle.tree_core.specs.declared.choice.Choice.{Choice}
use Rattle.fork_spec.specs.Partings.{Place}
use Rattle.fork_spec.specs.Walks.{is_by_nodes}
use Rattle.fork_tree.specs.NodesApart.{AreNodesApart}
use Rattle.fork_tree.specs.Written.{IsWalked}
use Rattle.fork_tree.specs.Contents.{cut_in, place_in}
use Rattle.fork_tree.specs.Nodes.{AllHold}
use Rattle.fork_tree.specs.Works.{Rules}
use Rattle.fork_tree.specs.declared.content.Content.{Content}

-- a worker and a story, the number of nodes that may come with no memory, and that of events
pub record TreeValue (W S L : Type 0) : Type 0 where
  pub worker : W
  pub story : Story (Content S L)
  pub node_room : ℕ
  pub event_room : ℕ

-- the choices that lead to a content
abbrev pub choices_at : {S L : Type 0} → (S → Place) → (L → Place) → Content S L → List Choice
choices_at state_place leaf_place c = (place_in state_place leaf_place c).choices

-- the assignments that it stands for
abbrev pub covers_at : {S L : Type 0} → (S → Place) → (L → Place) → Content S L → List ℕ → Bool
covers_at state_place leaf_place c = (place_in state_place leaf_place c).covers

-- What holds of a tree's story, by the rules of its worker: nodes hold what they
-- have to; what is written of it is a walk that leads to its nodes; nodes with no kids part by a
-- decision; and there are no more nodes than the budget and the further kids of one split, which
-- are fewer than 2 ^ 32.
pub record FollowsRules {S L : Type 0} (rules : Rules S L) (state_place : S → Place)
    (leaf_place : L → Place) (s : Story (Content S L)) : Type 0 where
  pub holds : AllHold rules state_place leaf_place s
  pub walked : IsWalked (choices_at state_place leaf_place) (cut_in state_place leaf_place)
      rules.targets rules.nodes rules.order s
  pub apart : AreNodesApart (place_in state_place leaf_place) rules.decides s
  pub few : length s.nodes ≤ rules.nodes + rules.targets
  pub small : rules.nodes + rules.targets < 2 ^ 32

-- What holds of a tree's story at every moment: it follows the rules, and is what events made of a
-- root, each of which might come when it came.
pub record IsWholeTree {S L : Type 0} (rules : Rules S L) (state_place : S → Place)
    (leaf_place : L → Place) (s : Story (Content S L)) : Type 0 where
  pub follows : FollowsRules rules state_place leaf_place s
  pub replays : Replays (covers_at state_place leaf_place)
      (λ c. is_by_nodes (cut_in state_place leaf_place c)) rules.nodes s
