-- The free node that an order names, as the entries of a segment tree tell it.
use Rattle.std.specs.Prelude.{◌≡◌, ℕ, ◌+◌, ◌/◌, ◌%◌, ◌<◌, List, length}
use Rattle.tree_core.specs.Orders.{drawn}
use Rattle.tree_core.specs.declared.order.Order.{Order}
use Rattle.tree_core.specs.declared.order.Order.TheVariants.{Deepest, Oldest, Mixed}
use Rattle.free_nodes.specs.declared.sum.FreeSum.{FreeSum}
use Rattle.free_nodes.specs.Entries.{sum_at, sum_from}

-- the leaf of a node
abbrev pub leaf_sum : List FreeSum → (node : ℕ) → FreeSum
leaf_sum entries node = sum_at entries (length entries / 2 + node)

-- the sum of the leaves before that of a node
abbrev pub sum_before : List FreeSum → (node : ℕ) → FreeSum
sum_before entries node = sum_from entries (length entries / 2) node

-- deepest, the node is as deep as any, and those before it are less deep, where some are free;
-- oldest, none before it is free;
-- mixed, as many before it are free as are drawn.
abbrev pub IsNamedBy : Order → (events : ℕ) → List FreeSum → (node : ℕ) → Type 0
IsNamedBy Deepest events entries node =
    ((leaf_sum entries node).deepest ≡ (sum_at entries 1).deepest)
    × (0 < (sum_before entries node).free
    → (sum_before entries node).deepest < (sum_at entries 1).deepest)
IsNamedBy Oldest events entries node = (sum_before entries node).free ≡ 0
IsNamedBy Mixed events entries node =
    (sum_before entries node).free ≡ drawn events % (sum_at entries 1).free
