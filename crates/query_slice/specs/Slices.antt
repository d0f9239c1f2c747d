-- The slice of a condition for one of its terms.
use Rattle.std.specs.Prelude.{◌≡◌, ◌↔◌, ℕ, Bool, IsTrue, List, Contains, filter, map}
use Rattle.bv_dag.specs.Queries.{Condition}
use Rattle.term_trees.specs.Trees.{tree_of}
use Rattle.query_pick.specs.Picks.{IsFromCone}
use Rattle.query_slice.specs.Reaching.{IsReached}

-- The slice asserts just those of the condition's terms that are reached from the new one, in their order: the same trees, over
-- as many input bytes.
pub record IsSlice (q : Condition) (new : ℕ) (s : Condition) : Type 0 where
  pub reaches : ℕ → Bool
  pub just : (id : ℕ) → Contains q.asserted id → IsTrue (reaches id) ↔ IsReached q new id
  pub kept : List ℕ
  pub in_order : kept ≡ filter reaches q.asserted
  pub inputs : s.graph.inputs ≡ q.graph.inputs
  pub same_trees : map (tree_of s.graph) s.asserted ≡ map (tree_of q.graph) kept

-- a slice in a graph of only what its terms stand on
pub record IsCut (q : Condition) (new : ℕ) (s : Condition) : Type 0 where
  pub slice : IsSlice q new s
  pub only_cone : IsFromCone q.graph slice.kept s.graph
