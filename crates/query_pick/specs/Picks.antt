-- The terms that are picked from a table.
use Rattle.std.specs.Prelude.{◌≡◌, ℕ, List, All, map}
use Rattle.std.specs.List.Sorted.{IsStrictlyIncreasing}
use Rattle.bv_dag.specs.Graphs.{Graph}
use Rattle.term_trees.specs.Trees.{trees, tree_of}
use Rattle.query_pick.specs.Cones.{IsUnder}

-- Every picked term comes from a term of the table that stands under those that were asked for, each from another one: their
-- places increase, and their trees are the same.
pub record IsFromCone (table : Graph) (tops : List ℕ) (picked : Graph) : Type 0 where
  pub places : List ℕ
  pub increasing : IsStrictlyIncreasing places
  pub under : All (IsUnder table tops) places
  pub same : trees picked.nodes ≡ map (tree_of table) places
