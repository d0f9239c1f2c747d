-- What is written of the story of a fork tree: its events, with of each content no more than why it was cut.
use Rattle.std.specs.Prelude.{◌≡◌, ℕ, ◌+◌, ◌<◌, Bool, true, IsTrue, List, [], ◌∷◌, ◌++◌, Option, Some, None, All, drop, if◌then◌else◌, length, map, slice_get, take}
use Rattle.tree_core.specs.declared.cause.Cause.{Cause}
use Rattle.tree_core.specs.declared.choice.Choice.{Choice}
use Rattle.tree_core.specs.declared.choice.Choice.TheVariants.{Rest}
use Rattle.tree_core.specs.declared.event.Event.{Event}
use Rattle.tree_core.specs.declared.event.Kid.{Kid}
use Rattle.tree_core.specs.declared.event.Deed.{Deed}
use Rattle.tree_core.specs.declared.event.Deed.TheVariants.{Claim, Split, Finish, Cut, Release}
use Rattle.tree_core.specs.Nodes.{Node}
use Rattle.tree_core.specs.declared.node.Origin.{Origin}
use Rattle.tree_core.specs.declared.node.Status.{Status}
use Rattle.tree_core.specs.declared.node.Status.TheVariants.{Leaf}
use Rattle.tree_core.specs.declared.order.Order.{Order}
use Rattle.tree_core.specs.Stories.{Story, content, status}
use Rattle.std.specs.Global.{Vec}
use Rattle.fork_spec.specs.Histories.{node_count}
use Rattle.fork_spec.specs.Walks.{Bounds, Line, Side, Sides, Standing, are_sides, is_end_cut, walk}

-- on which side of its parent's fork a node is; the root is on none
abbrev pub choice_in : Option Origin → Choice
choice_in None = Rest
choice_in (Some o) = o.choice

-- the side that a node was born as; `cut` tells of a content why it was cut
abbrev pub side_born : {R : Type 0} → (cut : R → Option Cause) → Node R → Side
side_born cut n = record {
  choice = choice_in n.origin;
  cut = if n.is_leaf then cut n.content
      else None;
}

-- the side that a kid is
abbrev pub side_of_kid : {R : Type 0} → (cut : R → Option Cause) → Kid R → Side
side_of_kid cut kid = record {
  choice = kid.choice;
  cut = if kid.is_leaf then cut kid.content
      else None;
}

-- how many nodes a deed makes
abbrev pub born_by : {R : Type 0} → Deed R ℕ → ℕ
born_by (Split count) = count
born_by _ = 0

-- a deed as it is written: the kids of a split are the next nodes, of which the first has this number
abbrev pub written_deed : {R : Type 0} → (cut : R → Option Cause) → List (Node R) → (first : ℕ)
    → Deed R ℕ → Deed (Option Cause) Sides
written_deed cut nodes first Claim = Claim
written_deed cut nodes first (Split count) =
    Split (record { first = first; sides = map (side_born cut) (take count (drop first nodes)) })
written_deed cut nodes first (Finish leaf) = Finish (cut leaf)
written_deed cut nodes first (Cut leaf) = Cut (cut leaf)
written_deed cut nodes first Release = Release

-- the events as they are written, where those before them have made so many nodes
unfoldable pub lines_from : {R : Type 0} → (cut : R → Option Cause) → List (Node R) → (first : ℕ)
    → List (Event R ℕ) → List Line
lines_from cut nodes first [] = []
lines_from cut nodes first (e ∷ es) =
    record { by = e.by; node = e.node; deed = written_deed cut nodes first e.deed }
    ∷ lines_from cut nodes (first + born_by e.deed) es

-- all of them; the root was there before any event
abbrev pub lines_of : {R : Type 0} → (cut : R → Option Cause) → Story R → List Line
lines_of cut s = lines_from cut s.nodes 1 s.events

-- why a node that stands so was cut, if it is a leaf that was
abbrev pub cut_where : {R : Type 0} → (cut : R → Option Cause) → Status → R → Option Cause
cut_where cut Leaf r = cut r
cut_where cut _ r = None

-- a node stands as the story says, at the place that its content has
abbrev pub StandsAs : {R : Type 0} → (choices : R → List Choice) → (cut : R → Option Cause)
    → Story R → ℕ → R → Standing → Type 0
StandsAs choices cut s m r standing =
    standing ≡ record {
      choices = choices r;
      status = status s m;
      cut = cut_where cut (status s m) r;
    }

-- the nodes of a walk are those of the story
pub record AreNodesOf {R : Type 0} (choices : R → List Choice) (cut : R → Option Cause)
    (s : Story R) (nodes : List Standing) : Type 0 where
  pub as_many : length nodes ≡ length s.nodes
  pub each : (m : ℕ) (r : R) → content s m ≡ Some r → (standing : Standing)
      × (slice_get nodes m ≡ Some standing) × StandsAs choices cut s m r standing

-- how many nodes there are after these events, where those before them have made so many
unfoldable pub nodes_after : {R : Type 0} → (first : ℕ) → List (Event R ℕ) → ℕ
nodes_after first [] = first
nodes_after first (e ∷ es) = nodes_after (first + born_by e.deed) es

-- the walk of what is written, held to these bounds, leads to the nodes of the story
pub record LeadsTo {R : Type 0} (choices : R → List Choice) (cut : R → Option Cause)
    (bounds : Bounds) (s : Story R) : Type 0 where
  pub nodes : List Standing
  pub walked : walk bounds (lines_of cut s) ≡ Some nodes
  pub same : AreNodesOf choices cut s nodes

-- What is written of the story is a walk that leads to its nodes, for any number of workers that all of its workers are among.
pub record IsWalked {R : Type 0} (choices : R → List Choice) (cut : R → Option Cause)
    (targets most : ℕ) (order : Order) (s : Story R) : Type 0 where
  pub counted : nodes_after 1 s.events ≡ length s.nodes
  pub written : node_count (lines_of cut s) ≡ length s.nodes
  pub leads : (workers : ℕ) → All (λ (e : Event R ℕ). e.by < workers) s.events
      → LeadsTo choices cut (record {
        workers = workers;
        targets = targets;
        nodes = most;
        order = order;
      }) s

-- a deed as it is written where there are so many nodes so far
abbrev pub written_now : {R : Type 0} → (cut : R → Option Cause) → (first : ℕ)
    → Deed R (Vec (Kid R)) → Deed (Option Cause) Sides
written_now cut first Claim = Claim
written_now cut first (Split kids) =
    Split (record { first = first; sides = map (side_of_kid cut) kids.items })
written_now cut first (Finish leaf) = Finish (cut leaf)
written_now cut first (Cut leaf) = Cut (cut leaf)
written_now cut first Release = Release

-- a leaf at once was cut
abbrev pub IsCutOr : Bool → Option Cause → Type 0
IsCutOr true None = ⊥
IsCutOr _ _ = Unit {0}

-- a kid is where its choice leads from its parent's, and one that is a leaf at once was cut
pub record IsKidOf {R : Type 0} (choices : R → List Choice) (cut : R → Option Cause) (r : R)
    (kid : Kid R) : Type 0 where
  pub leads : choices kid.content ≡ choices r ++ kid.choice ∷ []
  pub marked : IsCutOr kid.is_leaf (cut kid.content)

-- a deed on a node with this content is in form: kids are sides of its fork and have its choices and then their own, and a leaf
-- has its choices, and was cut by steps, by nodes or not at all
abbrev pub IsInForm : {R : Type 0} → (choices : R → List Choice) → (cut : R → Option Cause)
    → (targets : ℕ) → R → Deed R (Vec (Kid R)) → Type 0
IsInForm choices cut targets r Claim = Unit {0}
IsInForm {R} choices cut targets r (Split kids) =
    IsTrue (are_sides targets (map (side_of_kid cut) kids.items))
    × All (IsKidOf choices cut r) kids.items
IsInForm choices cut targets r (Finish leaf) = (choices leaf ≡ choices r) × (cut leaf ≡ None)
IsInForm choices cut targets r (Cut leaf) = (choices leaf ≡ choices r) × IsTrue (is_end_cut (cut leaf))
IsInForm choices cut targets r Release = Unit {0}
