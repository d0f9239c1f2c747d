-- A test of a number below a sum, as the code finds it.
use Rattle.std.specs.Prelude.{◌≡◌, ◌<◌, List, ℕ, All}
use Rattle.bv_dag.specs.BitVectors.{bvnot}
use Rattle.bv_dag.specs.Graphs.{Graph, val}
use Rattle.bv_dag.specs.Nodes.{node_value, node_width, widths_of}
use Rattle.bv_dag.specs.declared.nodes.Node.{Node}
use Rattle.term_trees.specs.Trees.{tree_of}
use Rattle.term_simplify.specs.Intervals.{IsBetween, between_at, interval_word}
use Rattle.term_simplify.specs.Moves.{unshifted}
use Rattle.term_simplify.specs.Simplified.{outside}
use Rattle.term_simplify.specs.declared.intervals.Between.{Between}

-- a node is told so
pub record IsAbove (graph : Graph) (node : Node) (b : Between) : Type 0 where
  pub is_between : IsBetween graph b
  pub tree : unshifted (tree_of graph) node ≡ outside (between_at graph b)
  pub bits : node_width (widths_of graph.nodes) node ≡ 1
  pub worth : (input : List ℕ) → All (λ b. b < 256) input →
      bvnot (interval_word (val graph b.term input) b.low b.high)
      ≡ node_value input (λ k. val graph k input) node
