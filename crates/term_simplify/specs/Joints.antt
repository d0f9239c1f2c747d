-- Two terms without a bit in common: where or, xor or a sum joins them, they are the one above the
-- other.
use Rattle.std.specs.Prelude.{◌+◌, ◌-◌, ◌<◌, ◌≤◌, ◌&&◌, Bool, true, false, nat_le, Option, Some, if◌then◌else◌}
use Rattle.bv_dag.specs.Graphs.{Graph, width_of}
use Rattle.bv_dag.specs.declared.nodes.BinaryOp.{BinaryOp}
use Rattle.bv_dag.specs.declared.nodes.BinaryOp.TheVariants.{Add, Or, Xor}
use Rattle.term_trees.specs.Trees.{Tree, Joined, tree_of, tree_width}
use Rattle.term_simplify.specs.Narrowing.{is_zero}
use Rattle.term_simplify.specs.Plain.{further, joined_of, tree_number}
use Rattle.term_simplify.specs.Plans.{under_zeros}
use Rattle.term_simplify.specs.declared.joints.Joint.{Joint}

-- the operations that join bits of which no two are at one place
abbrev pub joins : BinaryOp → Bool
joins Add = true
joins Or = true
joins Xor = true
joins op = false

-- A term above zeros, and one of no more bits than these, which is widened by zeros: the first above
-- the second.
abbrev pub joint_over : Tree → Option Tree → (otherwise : Tree) → Tree
joint_over (Joined u z) (Some v) otherwise =
    if is_zero (tree_number z) && nat_le (tree_width v) (tree_width z)
    then joined_of u (further (tree_width z - tree_width v) false v) else otherwise
joint_over s v otherwise = otherwise

abbrev pub joint_by : Tree → Tree → (otherwise : Tree) → Tree
joint_by s t otherwise = joint_over s (under_zeros t) otherwise

-- an operation of two terms at their own width, which may be another one where they are not such
unfoldable pub joint_of : BinaryOp → (s t otherwise : Tree) → Tree
joint_of op s t otherwise =
    if joins op then joint_by s t (joint_by t s otherwise) else otherwise

-- ---- Such terms as the code finds them.
abbrev pub joint_tree : Graph → Joint → Tree
joint_tree graph j = joined_of (tree_of graph j.upper) (further j.by false (tree_of graph j.lower))

-- two terms that have room in one, the one above the other
pub record IsJoint (graph : Graph) (j : Joint) : Type 0 where
  pub upper : 0 < width_of graph j.upper
  pub lower : 0 < width_of graph j.lower
  pub fits : width_of graph j.upper + (width_of graph j.lower + j.by) ≤ 64
