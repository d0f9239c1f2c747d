-- The walk of written events: how the nodes of a fork tree stand after them, with nothing known of what the nodes hold.
use Rattle.std.specs.Prelude.{ℕ, ◌+◌, Bool, true, false, List, [], ◌∷◌, ◌++◌, ◌==◌, ◌&&◌, ◌||◌, ◌^◌, if◌then◌else◌, nat_le, nat_lt, drop, is_some, length, map, slice_get, slice_set, Option, Some, None, option_and_then}
use Rattle.std.specs.List.{list_all}
use Rattle.tree_core.specs.Choices.{is_same}
use Rattle.tree_core.specs.Orders.{Candidate, is_named}
use Rattle.tree_core.specs.Replays.{borne, is_free, may_do}
use Rattle.tree_core.specs.Stories.{at_birth, left_by}
use Rattle.tree_core.specs.declared.cause.Cause.{Cause}
use Rattle.tree_core.specs.declared.cause.Cause.TheVariants.{Steps, Targets, Conflicts, Nodes}
use Rattle.tree_core.specs.declared.choice.Choice.{Choice}
use Rattle.tree_core.specs.declared.choice.Choice.TheVariants.{No, Yes, Value, Rest}
use Rattle.tree_core.specs.declared.event.Event.{Event}
use Rattle.tree_core.specs.declared.event.Deed.{Deed}
use Rattle.tree_core.specs.declared.event.Deed.TheVariants.{Claim, Split, Finish, Cut, Release}
use Rattle.tree_core.specs.declared.node.Status.{Status}
use Rattle.tree_core.specs.declared.node.Status.TheVariants.{Free, Held, Parted, Leaf}
use Rattle.tree_core.specs.declared.order.Order.{Order}

-- a side of a fork: its choice, and why it is a leaf at once, if it is
pub record Side : Type 0 where
  pub choice : Choice
  pub cut : Option Cause

-- the sides that a node is parted into, which become the next nodes, the first of this number
pub record Sides : Type 0 where
  pub first : ℕ
  pub sides : List Side

-- an event as it is written: of a leaf why it was cut, if it was, and of kids what sides they are
abbrev pub Line : Type 0
Line = Event (Option Cause) Sides

-- how a node stands: the choices that lead to it from the root, its status, and why it was cut, if it is a leaf that was
pub record Standing : Type 0 where
  pub choices : List Choice
  pub status : Status
  pub cut : Option Cause

-- what a walk is held to: so many workers, so many values of a term as sides, so many nodes, from which on none is parted, and an
-- order of claims
pub record Bounds : Type 0 where
  pub workers : ℕ
  pub targets : ℕ
  pub nodes : ℕ
  pub order : Order

-- before any event
abbrev pub root : Standing
root = record { choices = []; status = Free; cut = None }

-- no side of a branch is cut, or one by conflicts
abbrev pub is_one_cut_at_most : Option Cause → Option Cause → Bool
is_one_cut_at_most None None = true
is_one_cut_at_most (Some Conflicts) None = true
is_one_cut_at_most None (Some Conflicts) = true
is_one_cut_at_most _ _ = false

-- the two sides of a branch
abbrev pub are_branch_sides : List Side → Bool
are_branch_sides (first ∷ second ∷ []) = is_same first.choice No && is_same second.choice Yes
    && is_one_cut_at_most first.cut second.cut
are_branch_sides _ = false

-- the value of a side that isn't cut
abbrev pub open_value : Choice → Option Cause → Option ℕ
open_value (Value v) None = Some v
open_value _ _ = None

abbrev pub value_before : Option ℕ → List ℕ → List ℕ
value_before (Some v) vs = v ∷ vs
value_before None vs = []

-- the values that come first, before any other side
unfoldable pub values_first : List Side → List ℕ
values_first [] = []
values_first (side ∷ sides) = value_before (open_value side.choice side.cut) (values_first sides)

-- each is less than the next
abbrev pub is_increasing : List ℕ → Bool
is_increasing (v ∷ w ∷ vs) = nat_lt v w && is_increasing (w ∷ vs)
is_increasing _ = true

-- each has a text of its own: a number of 32 bits
abbrev pub are_small : List ℕ → Bool
are_small vs = list_all (λ v. nat_lt v (2 ^ 32)) vs

-- why all other values are cut: as many as there may be were found, or a question was left open
abbrev pub is_rest_cut : (targets found : ℕ) → Option Cause → Bool
is_rest_cut targets found (Some Targets) = found == targets
is_rest_cut targets found (Some Conflicts) = true
is_rest_cut targets found _ = false

-- what may come behind so many values: nothing, or the rest, which is cut
abbrev pub is_rest : (targets found : ℕ) → List Side → Bool
is_rest targets found [] = true
is_rest targets found (side ∷ []) = is_same side.choice Rest && is_rest_cut targets found side.cut
is_rest targets found _ = false

-- values of a term in increasing order, from one to `targets`, and maybe the rest; two sides in all at least
unfoldable pub are_values : (targets : ℕ) → List Side → Bool
are_values targets sides =
    is_increasing (values_first sides) && are_small (values_first sides)
    && nat_le 1 (length (values_first sides)) && nat_le (length (values_first sides)) targets
    && is_rest targets (length (values_first sides)) (drop (length (values_first sides)) sides)
    && nat_le 2 (length sides)

-- the sides that a node may part into
abbrev pub are_sides : (targets : ℕ) → List Side → Bool
are_sides targets sides = are_branch_sides sides || are_values targets sides

-- the side of one value
abbrev pub value_side : ℕ → Side
value_side value = record { choice = Value value; cut = None }

-- the side of all other values
abbrev pub rest_side : Option Cause → Side
rest_side cut = record { choice = Rest; cut = cut }

-- a leaf that was cut for want of nodes
abbrev pub is_by_nodes : Option Cause → Bool
is_by_nodes (Some Nodes) = true
is_by_nodes _ = false

-- what a run is cut for that goes on no further, not as a side of a fork: its steps, or want of nodes
abbrev pub is_end_cut : Option Cause → Bool
is_end_cut (Some Steps) = true
is_end_cut (Some Nodes) = true
is_end_cut _ = false

-- the form of a written deed, where there are so many nodes so far: sides get the next numbers, and what is cut is cut by steps or by
-- nodes
abbrev pub is_in_form : (targets nodes : ℕ) → Deed (Option Cause) Sides → Bool
is_in_form targets nodes Claim = true
is_in_form targets nodes (Split sides) = (sides.first == nodes) && are_sides targets sides.sides
is_in_form targets nodes (Finish None) = true
is_in_form targets nodes (Finish (Some cause)) = false
is_in_form targets nodes (Cut cut) = is_end_cut cut
is_in_form targets nodes Release = true

-- a node as an order of claims sees it
abbrev pub candidate : Standing → Candidate
candidate node = record { depth = length node.choices; is_free = is_free node.status }

-- a claim is of the node that the order names, where there were so many events
abbrev pub is_in_turn : Order → (events : ℕ) → List Candidate → (node : ℕ)
    → Deed (Option Cause) Sides → Bool
is_in_turn order events nodes node Claim = is_named order events nodes node
is_in_turn order events nodes node _ = true

-- why a deed leaves a leaf that was cut, if it does
abbrev pub cut_by : Deed (Option Cause) Sides → Option Cause
cut_by (Finish cut) = cut
cut_by (Cut cut) = cut
cut_by _ = None

-- a side of the fork at the node that these choices lead to: free, or a leaf at once
abbrev pub side_at : List Choice → Side → Standing
side_at choices side = record {
  choices = choices ++ side.choice ∷ [];
  status = at_birth (is_some side.cut);
  cut = side.cut;
}

-- the sides that a deed parts its node into
abbrev pub sides_of : Deed (Option Cause) Sides → List Side
sides_of deed = borne (λ (sides : Sides). sides.sides) deed

-- the nodes that come behind the others
abbrev pub side_births : List Choice → Deed (Option Cause) Sides → List Standing
side_births choices deed = map (side_at choices) (sides_of deed)

-- the nodes after an event on this one of them
abbrev pub done_on : List Standing → Line → Standing → List Standing
done_on nodes line node =
    slice_set nodes line.node
    (record node { status = left_by line.by line.deed; cut = cut_by line.deed })
    ++ side_births node.choices line.deed

-- whether the event may come behind so many, on this one of the nodes: its worker is one of so many, its guards hold, a claim is
-- in turn, and it is in form
abbrev pub may_come : Bounds → (events : ℕ) → List Standing → Line → Standing → Bool
may_come bounds events nodes line node =
    nat_lt line.by bounds.workers
    && may_do is_by_nodes bounds.nodes (length nodes) node.status line.by line.deed
    && is_in_turn bounds.order events (map candidate nodes) line.node line.deed
    && is_in_form bounds.targets (length nodes) line.deed

-- the nodes after an event behind so many, and none where it may not come
unfoldable pub walk_step : Bounds → (events : ℕ) → List Standing → Line → Option (List Standing)
walk_step bounds events nodes line =
    option_and_then (λ node. if may_come bounds events nodes line node
    then Some (done_on nodes line node) else None) (slice_get nodes line.node)

-- the nodes after more events behind so many, and none from the first on that may not come
unfoldable pub walk_from : Bounds → (events : ℕ) → List Standing → List Line
    → Option (List Standing)
walk_from bounds events nodes [] = Some nodes
walk_from bounds events nodes (line ∷ lines) =
    option_and_then (λ next. walk_from bounds (events + 1) next lines)
    (walk_step bounds events nodes line)

-- the nodes after all events, from the root on
abbrev pub walk : Bounds → List Line → Option (List Standing)
walk bounds lines = walk_from bounds 0 (root ∷ []) lines

-- parted, or a leaf
abbrev pub is_settled : Status → Bool
is_settled Free = false
is_settled (Held by) = false
is_settled Parted = true
is_settled Leaf = true

-- nothing is left to be done
abbrev pub is_quiet : List Standing → Bool
is_quiet nodes = list_all (λ (node : Standing). is_settled node.status) nodes
