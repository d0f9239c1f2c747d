-- Where the sum of a term and a number is below a number: where the term lies in an interval, which may
-- go round through 0. That takes no adder.
use Rattle.std.specs.Prelude.{◌<◌, ◌==◌, ◌||◌, length, option_and_then, nat_lt, Option, Some, None, if◌then◌else◌}
use Rattle.bv_dag.specs.BitVectors.{BitVector, bvneg, bvnot, bvsub, bvult}
use Rattle.bv_dag.specs.Graphs.{Graph, width_of}
use Rattle.bv_dag.specs.Nodes.{binary}
use Rattle.bv_dag.specs.declared.nodes.BinaryOp.{BinaryOp}
use Rattle.bv_dag.specs.declared.nodes.BinaryOp.TheVariants.{And, Or}
use Rattle.term_trees.specs.Trees.{Tree, Widened, IsOfWidth, tree_of}
use Rattle.term_simplify.specs.Equalities.{Peeled, undone}
use Rattle.term_simplify.specs.Offsets.{Offset, offset_of}
use Rattle.term_simplify.specs.declared.intervals.Between.{Between}

-- a term, the least of its values there, and the number after the last of them
pub record Interval : Type 0 where
  pub term : Tree
  pub low : BitVector
  pub high : BitVector

-- t + n is below y for t from -n on, and up to y - n.
abbrev pub interval_at : BitVector → Offset → Option Interval
interval_at y o =
    if o.taken || y.number == 0 then None
    else Some (record { term = o.term; low = bvneg o.number; high = bvsub y o.number })

abbrev pub interval_under : Option Peeled → Option Interval
interval_under (Some p) = option_and_then (interval_at p.number) (offset_of p.term)
interval_under None = None

-- A widened sum is below a number that is widened in the same way where the sum is below its low bits.
abbrev pub interval_of : Tree → BitVector → Option Interval
interval_of (Widened by signed t) y = interval_under (undone (Widened by signed t) y)
interval_of t y = interval_under (Some (record { term = t; number = y }))

-- how a test from below and one from above are joined
abbrev pub joining : (low high : BitVector) → BinaryOp
joining low high = if nat_lt low.number high.number then And else Or

-- whether a value is in an interval, which may end at 0
abbrev pub interval_word : (x low high : BitVector) → BitVector
interval_word x low high =
    if high.number == 0 then bvnot (bvult x low)
    else binary (joining low high) (bvnot (bvult x low)) (bvult x high)

-- ---- Intervals as the code finds them.
abbrev pub between_at : Graph → Between → Interval
between_at graph b = record { term = tree_of graph b.term; low = b.low; high = b.high }

-- a term, and two numbers of its width
pub record IsBetween (graph : Graph) (b : Between) : Type 0 where
  pub there : b.term < length graph.nodes
  pub low : IsOfWidth (width_of graph b.term) b.low
  pub high : IsOfWidth (width_of graph b.term) b.high
