-- The numbers of shapes. A shape is a node whose operands are numbers of shapes before it, and
-- there is each but once: so equal trees have one number, and unequal ones two.
use Rattle.std.specs.Prelude.{◌≡◌, ◌<◌, ℕ, List, Contains, Some, length, slice_get, slice_index}
use Rattle.bv_dag.specs.Graphs.{Graph}
use Rattle.bv_dag.specs.declared.nodes.Node.{Node}
use Rattle.query_pick.specs.Operands.{operands}
use Rattle.term_trees.specs.Growth.{Continues}
use Rattle.term_trees.specs.Trees.{tree_of}

-- the nodes of a graph, seen as shapes
pub record AreShapes (shapes : Graph) : Type 0 where
  -- no two are one
  pub apart : (i j : ℕ) (n : Node) → slice_get shapes.nodes i ≡ Some n
      → slice_get shapes.nodes j ≡ Some n → i ≡ j
  -- operands stand before
  pub earlier : (i a : ℕ) (n : Node) → slice_get shapes.nodes i ≡ Some n
      → Contains (operands n) a → a < i

-- each term of a graph has the number of its shape, where these shapes were known and these are now
pub record AreNumbered (known shapes graph : Graph) (numbers : List ℕ) : Type 0 where
  pub kept : Continues known shapes
  pub long : length numbers ≡ length graph.nodes
  pub there : (id : ℕ) → id < length graph.nodes
      → slice_index numbers id < length shapes.nodes
  pub same : (id : ℕ) → id < length graph.nodes
      → tree_of shapes (slice_index numbers id) ≡ tree_of graph id

-- a shape has this number among shapes, where it was put among those known
pub record IsNumber (known shapes : Graph) (shape : Node) (number : ℕ) : Type 0 where
  pub kept : Continues known shapes
  pub is : slice_get shapes.nodes number ≡ Some shape

-- each of some is among others
abbrev pub AreAmong : {X : Type 0} → (some others : List X) → Type 0
AreAmong {X} some others = (x : X) → Contains some x → Contains others x
