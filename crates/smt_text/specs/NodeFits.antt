-- Where a node may stand, as a test: the conditions of `bv_dag`, case by case.
use Rattle.std.specs.Prelude.{ℕ, ◌+◌, ◌^◌, Bool, List, ◌==◌, ◌&&◌, nat_lt, nat_le, slice_index}
use Rattle.bv_dag.specs.declared.nodes.Node.{Node}
use Rattle.bv_dag.specs.declared.nodes.Node.TheVariants.{Num, Input, Not, Neg, Binary, Compare, Ite, Extract, Extend, Concat}

-- an earlier node
abbrev pub is_earlier : List ℕ → ℕ → Bool
is_earlier before a = nat_lt 0 (slice_index before a)

-- two earlier nodes that are as wide
abbrev pub are_as_wide : List ℕ → ℕ → ℕ → Bool
are_as_wide before a b = is_earlier before a && (slice_index before a == slice_index before b)

-- the node may stand over so many inputs, behind nodes of these widths
abbrev pub fits : ℕ → List ℕ → Node → Bool
fits inputs before (Num w v) = nat_lt 0 w && nat_le w 64 && nat_lt v (2 ^ w)
fits inputs before (Input i) = nat_lt i inputs
fits inputs before (Not a) = is_earlier before a
fits inputs before (Neg a) = is_earlier before a
fits inputs before (Binary op a b) = are_as_wide before a b
fits inputs before (Compare op a b) = are_as_wide before a b
fits inputs before (Ite c a b) = (slice_index before c == 1) && are_as_wide before a b
fits inputs before (Extract high low a) = nat_le low high && nat_lt high (slice_index before a)
fits inputs before (Extend by signed a) =
    is_earlier before a && nat_le 1 by && nat_le (slice_index before a + by) 64
fits inputs before (Concat a b) =
    is_earlier before a && is_earlier before b
    && nat_le (slice_index before a + slice_index before b) 64
