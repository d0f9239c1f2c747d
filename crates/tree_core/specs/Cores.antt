-- A core as a story with room for more, and what its fields keep.
use Rattle.std.specs.Prelude.{vec_len, vec_capacity, min, ◌-◌, ◌+◌, ◌≡◌, ℕ, ◌<◌, Bool, true, false, Option, Some, None, List, length, slice_get, slice_set}
use Rattle.std.specs.Global.{Vec}
use Rattle.std.specs.List.{All}
use Rattle.tree_core.specs.Stories.{Story, status, content, last_on}
use Rattle.tree_core.specs.Covers.{Partition, count_below}
use Rattle.tree_core.specs.Replays.{Replays}
use Rattle.tree_core.specs.declared.event.Event.{Event}
use Rattle.tree_core.specs.declared.event.Deed.{Deed}
use Rattle.tree_core.specs.declared.event.Deed.TheVariants.{Claim, Split, Release}
use Rattle.tree_core.specs.declared.event.Kid.{Kid}
use Rattle.tree_core.specs.Nodes.{Node}
use Rattle.tree_core.specs.declared.node.Status.{Status}
use Rattle.tree_core.specs.declared.node.Status.TheVariants.{Free, Held, Parted, Leaf}

-- a story, how many nodes it may have, the number of nodes that may come with no memory, and that of events, beside the one that
-- is kept back for each held node
pub record CoreValue (R : Type 0) : Type 0 where
  pub story : Story R
  pub most : ℕ
  pub node_room : ℕ
  pub event_room : ℕ

-- some worker has claimed it
abbrev pub is_held : Status → Bool
is_held (Held by) = true
is_held _ = false

-- Of each node, at its number, its birth, the place of the last event that names it, and what it
-- holds while it's free or held; and how many nodes more there is room for.
pub record Shelved (R : Type 0) : Type 0 where
  pub nodes : List (Node R)
  pub latest : List (Option ℕ)
  pub contents : List (Option R)
  pub room : ℕ

-- how many nodes are held
abbrev pub held_count : {R : Type 0} → Story R → ℕ
held_count s = count_below (λ m. is_held (status s m)) (length s.nodes)

-- this is the place of the last event that names the node
abbrev pub IsLast : {R : Type 0} → Story R → ℕ → Option ℕ → Type 0
IsLast s m None = last_on m s.events ≡ None
IsLast {R} s m (Some k) = (e : Event R ℕ) × (slice_get s.events k ≡ Some e)
    × (last_on m s.events ≡ Some e)

-- the content of a node that stands so, if work is to be done on it: the node is free or held
abbrev pub if_unworked : {R : Type 0} → Status → Option R → Option R
if_unworked Free content = content
if_unworked (Held by) content = content
if_unworked Parted content = None
if_unworked Leaf content = None

-- what the node holds while it's free or held, and nothing else
abbrev pub unworked : {R : Type 0} → Story R → ℕ → Option R
unworked s m = if_unworked (status s m) (content s m)

-- the content of a node that stands so, if it's a leaf
abbrev pub if_leaf : {R : Type 0} → Status → Option R → Option R
if_leaf Leaf content = content
if_leaf _ content = None

-- what is unworked of a node at its birth
abbrev pub unworked_of : {R : Type 0} → Bool → R → Option R
unworked_of true content = None
unworked_of false content = Some content

-- what a deed leaves unworked: what its node held is let go as the node is parted or becomes a leaf
abbrev pub let_go : {R K : Type 0} → Deed R K → ℕ → List (Option R) → List (Option R)
let_go Claim m contents = contents
let_go Release m contents = contents
let_go _ m contents = slice_set contents m None

-- a story that events made, with the place of each node's last event, what the free and held nodes hold, and how many are held
pub record IsCore {R : Type 0} (covers : R → List ℕ → Bool) (by_nodes : R → Bool) (most : ℕ)
    (s : Story R) (latest : List (Option ℕ))
    (contents : List (Option R)) (held : ℕ) : Type 0 where
  pub replays : Replays covers by_nodes most s
  pub partition : Partition covers s
  pub named : All (λ (e : Event R ℕ). e.node < length s.nodes) s.events
  pub long : length latest ≡ length s.nodes
  pub last : (m : ℕ) (o : Option ℕ) → slice_get latest m ≡ Some o → IsLast s m o
  pub wide : length contents ≡ length s.nodes
  pub holds : (m : ℕ) (o : Option R) → slice_get contents m ≡ Some o → o ≡ unworked s m
  pub counted : held ≡ held_count s

-- how many nodes a deed takes into a worker's hand
abbrev pub takes : {R K : Type 0} → Deed R K → ℕ
takes Claim = 1
takes _ = 0

-- how many nodes a deed gives back
abbrev pub ends : {R K : Type 0} → Deed R K → ℕ
ends Claim = 0
ends _ = 1

-- for this deed memory is asked for: a claim needs two events' room, a split that of its kids, the others none
abbrev pub LacksRoom : {R : Type 0} → CoreValue R → Deed R (Vec (Kid R)) → Type 0
LacksRoom c Claim = c.event_room < 2
LacksRoom c (Split kids) = c.node_room < length kids.items
LacksRoom c _ = ⊥

-- how many more nodes the lists that nodes stand in have room for
abbrev pub spare_nodes : {R : Type 0} → Vec (Node R) → Vec (Option ℕ) → Vec (Option R) → ℕ
spare_nodes nodes latest contents =
    min (min (vec_capacity nodes - length nodes.items) (vec_capacity latest - length latest.items))
    (vec_capacity contents - length contents.items)

-- there is too little room for the deed, where there is that of so many nodes, and so many are held
abbrev pub NoRoom : {R : Type 0} → ℕ → Vec (Event R ℕ) → ℕ → Deed R (Vec (Kid R)) → Type 0
NoRoom room events held Claim = vec_capacity events < vec_len events + held + 2
NoRoom room events held (Split kids) = room < vec_len kids
NoRoom room events held _ = ⊥
