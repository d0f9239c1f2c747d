-- What a sum says of nodes: how many are free, and the greatest depth of a free one, which is 0 where none is.
use Rattle.std.specs.Prelude.{◌+◌, max, Option, Some, None, if◌then◌else◌}
use Rattle.tree_core.specs.Orders.{Candidate}
use Rattle.free_nodes.specs.declared.sum.FreeSum.{FreeSum}

-- of nodes of which none is free
abbrev pub none_free : FreeSum
none_free = record { free = 0; deepest = 0 }

-- of one node, if it is there
abbrev pub sum_of : Option Candidate → FreeSum
sum_of None = none_free
sum_of (Some c) = if c.is_free then record { free = 1; deepest = c.depth } else none_free

-- of the nodes of both
abbrev pub sum_of_both : FreeSum → FreeSum → FreeSum
sum_of_both a b = record { free = a.free + b.free; deepest = max a.deepest b.deepest }
