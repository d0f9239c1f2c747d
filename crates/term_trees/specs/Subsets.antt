-- When a condition asks no more than another one, by their trees.
use Rattle.std.specs.Prelude.{◌≡◌, Contains}
use Rattle.bv_dag.specs.Queries.{Condition}
use Rattle.term_trees.specs.Trees.{Tree}
use Rattle.term_trees.specs.TreeSlices.{asserted_trees}

-- The first condition is over as many input bytes as the second, and unfolded it asserts only what the second asserts too.
pub record AsksNoMore (less more : Condition) : Type 0 where
  pub inputs : less.graph.inputs ≡ more.graph.inputs
  pub trees : (t : Tree) → Contains (asserted_trees less) t → Contains (asserted_trees more) t
