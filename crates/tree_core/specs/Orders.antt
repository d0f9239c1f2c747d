-- Which free node a claim takes, by the order of claims.
use Rattle.std.specs.Prelude.{ℕ, ◌+◌, ◌*◌, ◌/◌, ◌%◌, ◌^◌, ◌==◌, ◌&&◌, Bool, true, false, nat_le, nat_lt, if◌then◌else◌, Option, Some, None, List, count_by, slice_get, take}
use Rattle.std.specs.List.{list_all}
use Rattle.tree_core.specs.declared.order.Order.{Order}
use Rattle.tree_core.specs.declared.order.Order.TheVariants.{Deepest, Oldest, Mixed}

-- a node as an order sees it: how many choices lead to it from the root, and whether it is free
pub record Candidate : Type 0 where
  pub depth : ℕ
  pub is_free : Bool

-- where it is free, fewer choices lead to it than so many
abbrev pub is_less_deep : (depth : ℕ) → Candidate → Bool
is_less_deep depth c = if c.is_free then nat_lt c.depth depth else true

-- where it is free, no more choices lead to it
abbrev pub is_no_deeper : (depth : ℕ) → Candidate → Bool
is_no_deeper depth c = if c.is_free then nat_le c.depth depth else true

-- how many are free
abbrev pub free_count : List Candidate → ℕ
free_count nodes = count_by (λ (c : Candidate). c.is_free) nodes

-- a number that looks drawn by lot, made of the number of events so far: the upper half of what a step of the linear congruential
-- generator in the C standard (C11, 7.22.2.2) makes of it in 32 bits
unfoldable pub drawn : (events : ℕ) → ℕ
drawn events = (events * 1103515245 + 12345) % 2 ^ 32 / 2 ^ 16

-- Of these nodes, the order names the free one of this number, where there were so many events:
-- deepest, most choices lead to it, and to none of a lesser number as many;
-- oldest, no free node has a lesser number;
-- mixed, as many free nodes have a lesser number as are drawn.
abbrev pub is_next : Order → (events : ℕ) → List Candidate → (number : ℕ) → Candidate → Bool
is_next Deepest events nodes number c = list_all (is_no_deeper c.depth) nodes
    && list_all (is_less_deep c.depth) (take number nodes)
is_next Oldest events nodes number c = free_count (take number nodes) == 0
is_next Mixed events nodes number c =
    free_count (take number nodes) == drawn events % free_count nodes

-- the node is there and free, and the order names it
abbrev pub is_next_free : Order → (events : ℕ) → List Candidate → (number : ℕ) → Option Candidate
    → Bool
is_next_free order events nodes number None = false
is_next_free order events nodes number (Some c) = c.is_free
    && is_next order events nodes number c

-- the node of this number is the one to be claimed next
unfoldable pub is_named : Order → (events : ℕ) → List Candidate → (number : ℕ) → Bool
is_named order events nodes number =
    is_next_free order events nodes number (slice_get nodes number)
