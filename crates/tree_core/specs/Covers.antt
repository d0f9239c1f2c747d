-- What contents cover, and that the nodes of a tree share out what its root covers.
use Rattle.std.specs.Prelude.{◌≡◌, ℕ, zero, suc, ◌+◌, Bool, true, false, ◌&&◌, if◌then◌else◌, Option, Some, None, option_map, List, count_by, length, slice_get}
use Rattle.tree_core.specs.Stories.{Story, status, content}
use Rattle.tree_core.specs.declared.event.Kid.{Kid}
use Rattle.tree_core.specs.declared.node.Status.{Status}
use Rattle.tree_core.specs.declared.node.Status.TheVariants.{Parted}

-- 1 or 0
abbrev pub one_if : Bool → ℕ
one_if b = if b then 1 else 0

-- how many numbers below this one pass
abbrev pub count_below : (ℕ → Bool) → ℕ → ℕ
count_below p zero = 0
count_below p (suc n) = count_below p n + one_if (p n)

-- a content covers the assignment; where there is none, nothing does
abbrev pub covered : {R : Type 0} → (R → List ℕ → Bool) → Option R → List ℕ → Bool
covered covers None input = false
covered covers (Some r) input = covers r input

-- two contents cover the same
abbrev pub SameCover : {R : Type 0} → (R → List ℕ → Bool) → Option R → R → Type 0
SameCover covers old new = (input : List ℕ) → covers new input ≡ covered covers old input

-- each assignment that the content covers is covered by exactly one kid, and any other by none
abbrev pub Parts : {R : Type 0} → (R → List ℕ → Bool) → Option R → List (Kid R) → Type 0
Parts covers old kids = (input : List ℕ) → count_by (λ kid. covers kid.content input) kids
    ≡ one_if (covered covers old input)

-- a node that stands for what it holds: it has no kids
abbrev pub is_live : Status → Bool
is_live Parted = false
is_live _ = true

-- the node stands for the assignment: it's free, held or a leaf, and what it holds covers it
abbrev pub node_covers : {R : Type 0} → (R → List ℕ → Bool) → Story R → List ℕ → ℕ → Bool
node_covers covers s input m = is_live (status s m) && covered covers (content s m) input

-- what the root held at its birth
abbrev pub root_content : {R : Type 0} → Story R → Option R
root_content s = option_map (λ n. n.content) (slice_get s.nodes 0)

-- how many nodes stand for the assignment
abbrev pub standing_count : {R : Type 0} → (R → List ℕ → Bool) → Story R → List ℕ → ℕ
standing_count covers s input = count_below (node_covers covers s input) (length s.nodes)

-- each assignment that the root covered at its birth is covered by exactly one node that is free, held or a leaf, and any other by none
abbrev pub Partition : {R : Type 0} → (R → List ℕ → Bool) → Story R → Type 0
Partition covers s = (input : List ℕ)
    → standing_count covers s input ≡ one_if (covered covers (root_content s) input)
