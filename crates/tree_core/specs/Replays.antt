-- Events as they come to a tree: which ones may come, what they make of it, and that a tree is what its events made of its root.
use Rattle.std.specs.Prelude.{◌≡◌, ℕ, ◌<◌, ◌==◌, ◌&&◌, Bool, true, false, not, nat_le, nat_lt, if◌then◌else◌, IsTrue, Option, Some, None, List, [], ◌∷◌, ◌++◌, map, length}
use Rattle.std.specs.Global.{Vec}
use Rattle.tree_core.specs.Stories.{Story, status, content}
use Rattle.tree_core.specs.Covers.{SameCover, Parts}
use Rattle.tree_core.specs.declared.event.Event.{Event}
use Rattle.tree_core.specs.declared.event.Deed.{Deed}
use Rattle.tree_core.specs.declared.event.Deed.TheVariants.{Claim, Split, Finish, Cut, Release}
use Rattle.tree_core.specs.declared.event.Kid.{Kid}
use Rattle.tree_core.specs.Nodes.{Node}
use Rattle.tree_core.specs.declared.node.Status.{Status}
use Rattle.tree_core.specs.declared.node.Status.TheVariants.{Free, Held}

-- it may be claimed
abbrev pub is_free : Status → Bool
is_free Free = true
is_free _ = false

-- this worker has claimed it
abbrev pub is_held_by : ℕ → Status → Bool
is_held_by by (Held w) = w == by
is_held_by by _ = false

-- a claim needs a free node, each other deed one that the worker holds
abbrev pub allows : {R K : Type 0} → Status → ℕ → Deed R K → Bool
allows s by Claim = is_free s
allows s by _ = is_held_by by s

-- what a worker may hand in for a node with this content: kids that part it, or a leaf that covers the same
abbrev pub IsSound : {R : Type 0} → (R → List ℕ → Bool) → Option R → Deed R (Vec (Kid R)) → Type 0
IsSound covers old (Split kids) = Parts covers old kids.items
IsSound covers old (Finish leaf) = SameCover covers old leaf
IsSound covers old (Cut leaf) = SameCover covers old leaf
IsSound covers old _ = Unit {0}

-- what the caller of `apply` has to see to: the node is there, and what is handed in for it is sound
abbrev pub IsFit : {R : Type 0} → (R → List ℕ → Bool) → Story R → Event R (Vec (Kid R)) → Type 0
IsFit covers s e = (e.node < length s.nodes) × IsSound covers (content s e.node) e.deed

-- the node stands as the event needs it
abbrev pub is_allowed : {R : Type 0} → Story R → Event R (Vec (Kid R)) → Bool
is_allowed s e = allows (status s e.node) e.by e.deed

-- a split where there are as many nodes as there may be, or more
abbrev pub is_full : {R K : Type 0} → (most nodes : ℕ) → Deed R K → Bool
is_full most nodes (Split kids) = nat_le most nodes
is_full most nodes _ = false

-- a cut for want of nodes where there are fewer than there may be
abbrev pub is_early : {R K : Type 0} → (by_nodes : R → Bool) → (most nodes : ℕ) → Deed R K → Bool
is_early by_nodes most nodes (Cut leaf) = by_nodes leaf && nat_lt nodes most
is_early by_nodes most nodes _ = false

-- so many nodes are few enough for a split, and enough for a cut for want of nodes
abbrev pub has_room : {R K : Type 0} → (by_nodes : R → Bool) → (most nodes : ℕ) → Deed R K → Bool
has_room by_nodes most nodes deed = not (is_full most nodes deed)
    && not (is_early by_nodes most nodes deed)

-- the guards of a worker's deed on a node that stands so, where there are so many nodes
abbrev pub may_do : {R K : Type 0} → (by_nodes : R → Bool) → (most nodes : ℕ) → Status → (by : ℕ)
    → Deed R K → Bool
may_do by_nodes most nodes st by deed = allows st by deed && has_room by_nodes most nodes deed

-- the event's guards hold
abbrev pub may_come : {R : Type 0} → (by_nodes : R → Bool) → (most : ℕ) → Story R
    → Event R (Vec (Kid R)) → Bool
may_come by_nodes most s e = may_do by_nodes most (length s.nodes) (status s e.node) e.by e.deed

-- the node that a kid becomes
abbrev pub node_of : {R : Type 0} → ℕ → Kid R → Node R
node_of parent kid = record {
  origin = Some (record { parent = parent; choice = kid.choice });
  content = kid.content;
  is_leaf = kid.is_leaf;
}

-- what a deed bears: a split what is listed of what it carries, and any other nothing
abbrev pub borne : {R K X : Type 0} → (listed : K → List X) → Deed R K → List X
borne listed (Split kids) = listed kids
borne listed _ = []

-- the kids that a deed hands in
abbrev pub kids_of : {R : Type 0} → Deed R (Vec (Kid R)) → List (Kid R)
kids_of {R} deed = borne (λ (kids : Vec (Kid R)). kids.items) deed

-- the nodes that a deed makes, in their order
abbrev pub births : {R : Type 0} → ℕ → Deed R (Vec (Kid R)) → List (Node R)
births parent deed = map (node_of parent) (kids_of deed)

-- a deed as it is noted: of kids their number
abbrev pub deed_kept : {R : Type 0} → Deed R (Vec (Kid R)) → Deed R ℕ
deed_kept Claim = Claim
deed_kept (Split kids) = Split (length kids.items)
deed_kept (Finish leaf) = Finish leaf
deed_kept (Cut leaf) = Cut leaf
deed_kept Release = Release

-- an event as it is noted
abbrev pub kept : {R : Type 0} → Event R (Vec (Kid R)) → Event R ℕ
kept e = record { by = e.by; node = e.node; deed = deed_kept e.deed }

-- the story with one event more
abbrev pub with_event : {R : Type 0} → Story R → Event R (Vec (Kid R)) → Story R
with_event s e = record {
  nodes = s.nodes ++ births e.node e.deed;
  events = s.events ++ kept e ∷ [];
}

-- one root and no event
abbrev pub opening : {R : Type 0} → R → Bool → Story R
opening root is_leaf = record {
  nodes = record { origin = None; content = root; is_leaf = is_leaf }
      ∷ [];
  events = [];
}

-- each of the events is fit, and its guards hold, when it comes
abbrev pub AllMayCome : {R : Type 0} → (R → List ℕ → Bool) → (by_nodes : R → Bool) → (most : ℕ)
    → Story R → List (Event R (Vec (Kid R))) → Type 0
AllMayCome covers by_nodes most s [] = Unit {0}
AllMayCome covers by_nodes most s (e ∷ es) = IsFit covers s e × IsTrue (may_come by_nodes most s e)
    × AllMayCome covers by_nodes most (with_event s e) es

-- the story with these events more
abbrev pub noted_all : {R : Type 0} → Story R → List (Event R (Vec (Kid R))) → Story R
noted_all s [] = s
noted_all s (e ∷ es) = noted_all (with_event s e) es

-- the story is what some events made of a root, each of which might come when it came
abbrev pub Replays : {R : Type 0} → (R → List ℕ → Bool) → (by_nodes : R → Bool) → (most : ℕ)
    → Story R → Type 0
Replays {R} covers by_nodes most s =
    (root : R) × (is_leaf : Bool) × (es : List (Event R (Vec (Kid R))))
    × AllMayCome covers by_nodes most (opening root is_leaf) es
    × (s ≡ noted_all (opening root is_leaf) es)

-- an event that comes to a core: it's noted where its guards hold, else nothing changes
abbrev pub after_event : {R : Type 0} → (by_nodes : R → Bool) → (most : ℕ) → Story R
    → Event R (Vec (Kid R)) → Story R
after_event by_nodes most s e = if may_come by_nodes most s e then with_event s e else s

-- any events, one by one
abbrev pub after_all : {R : Type 0} → (by_nodes : R → Bool) → (most : ℕ) → Story R
    → List (Event R (Vec (Kid R))) → Story R
after_all by_nodes most s [] = s
after_all by_nodes most s (e ∷ es) = after_all by_nodes most (after_event by_nodes most s e) es

-- each event is fit when it comes
abbrev pub AreFit : {R : Type 0} → (R → List ℕ → Bool) → (by_nodes : R → Bool) → (most : ℕ)
    → Story R → List (Event R (Vec (Kid R))) → Type 0
AreFit covers by_nodes most s [] = Unit {0}
AreFit covers by_nodes most s (e ∷ es) =
    IsFit covers s e × AreFit covers by_nodes most (after_event by_nodes most s e) es
