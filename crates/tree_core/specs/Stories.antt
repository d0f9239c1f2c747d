-- The story of a fork tree, which only grows: its nodes at their birth, and the events noted. How a node stands is read from it.
use Rattle.std.specs.Prelude.{◌≡◌, ℕ, ◌==◌, Bool, if◌then◌else◌, Option, Some, None, option_map, List, [], ◌∷◌, slice_get}
use Rattle.tree_core.specs.declared.event.Event.{Event}
use Rattle.tree_core.specs.declared.event.Deed.{Deed}
use Rattle.tree_core.specs.declared.event.Deed.TheVariants.{Claim, Split, Finish, Cut, Release}
use Rattle.tree_core.specs.Nodes.{Node}
use Rattle.tree_core.specs.declared.node.Status.{Status}
use Rattle.tree_core.specs.declared.node.Status.TheVariants.{Free, Held, Parted, Leaf}

-- the nodes at their places, the root first, and the events in their order
pub record Story (R : Type 0) : Type 0 where
  pub nodes : List (Node R)
  pub events : List (Event R ℕ)

-- this event if it names the node and no later one does
abbrev pub or_later : {R : Type 0} → ℕ → Event R ℕ → Option (Event R ℕ) → Option (Event R ℕ)
or_later m e None = if e.node == m then Some e else None
or_later m e (Some later) = Some later

-- the last event that names the node
abbrev pub last_on : {R : Type 0} → ℕ → List (Event R ℕ) → Option (Event R ℕ)
last_on m [] = None
last_on m (e ∷ es) = or_later m e (last_on m es)

-- how a deed leaves the node
abbrev pub left_by : {R K : Type 0} → ℕ → Deed R K → Status
left_by by Claim = Held by
left_by by (Split kids) = Parted
left_by by (Finish leaf) = Leaf
left_by by (Cut leaf) = Leaf
left_by by Release = Free

-- how a node stands at its birth, as a leaf or not
abbrev pub at_birth : (is_leaf : Bool) → Status
at_birth is_leaf = if is_leaf then Leaf else Free

-- so it does as it is born, if it is
abbrev pub born_as : {R : Type 0} → Option (Node R) → Status
born_as None = Free
born_as (Some n) = at_birth n.is_leaf

-- how a node stands that was born so, by the last event that names it
abbrev pub status_by : {R : Type 0} → Status → Option (Event R ℕ) → Status
status_by birth None = birth
status_by birth (Some e) = left_by e.by e.deed

-- a node stands as the last event that names it has left it, or as it was born where none does
abbrev pub status : {R : Type 0} → Story R → ℕ → Status
status s m = status_by (born_as (slice_get s.nodes m)) (last_on m s.events)

-- what a deed leaves in a node that was born with this content
abbrev pub content_by : {R : Type 0} → Option R → Deed R ℕ → Option R
content_by birth (Finish leaf) = Some leaf
content_by birth (Cut leaf) = Some leaf
content_by birth _ = birth

-- what a node holds that was born with this content, by the last event that names it
abbrev pub content_after : {R : Type 0} → Option R → Option (Event R ℕ) → Option R
content_after birth None = birth
content_after birth (Some e) = content_by birth e.deed

-- what a node holds: the content that it was finished or cut with, else that of its birth
abbrev pub content : {R : Type 0} → Story R → ℕ → Option R
content s m = content_after (option_map (λ n. n.content) (slice_get s.nodes m)) (last_on m s.events)

-- the event is a claim of this worker
abbrev pub IsClaimBy : {R : Type 0} → ℕ → Option (Event R ℕ) → Type 0
IsClaimBy w None = ⊥
IsClaimBy w (Some e) = (e.deed ≡ Claim) × (e.by ≡ w)

-- the last event that names the node is a claim of this worker
abbrev pub LastIsClaim : {R : Type 0} → Story R → ℕ → ℕ → Type 0
LastIsClaim s m w = IsClaimBy w (last_on m s.events)
