-- Ends that are kept beside terms. Their width is the term's, which the table has.
use Rattle.std.specs.Prelude.{◌≡◌, List, map}
use Rattle.bv_dag.specs.Graphs.{Graph, IsDag}
use Rattle.term_trees.specs.Trees.{Tree, trees}
use Rattle.term_simplify.specs.Ends.{ends_of}
use Rattle.term_simplify.specs.declared.known.Bounds.{Bounds}

-- those of a tree
abbrev pub bounds_of : Tree → Bounds
bounds_of t =
    record { least = (ends_of t).least.number; greatest = (ends_of t).greatest.number }

pub record AreKept (graph : Graph) (kept : List Bounds) : Type 0 where
  pub dag : IsDag graph
  pub each : kept ≡ map bounds_of (trees graph.nodes)
