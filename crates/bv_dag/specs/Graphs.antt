-- Graphs of terms: nodes in a row, each of which fits behind those before it, so that every term has a width and a value.
use Rattle.std.specs.Prelude.{◌≡◌, ℕ, List, [], ◌∷◌, ◌++◌, take, Some, slice_get}
use Rattle.bv_dag.specs.BitVectors.{BitVector}
use Rattle.bv_dag.specs.Nodes.{Fits, values, widths_of, width_in, vector_at}
use Rattle.bv_dag.specs.declared.nodes.Node.{Node}

-- what a `Dag` stands for
pub record Graph : Type 0 where
  pub inputs : ℕ
  pub nodes : List Node

-- each node fits after those before it
abbrev pub AllFit : ℕ → List Node → Type 0
AllFit inputs nodes = (id : ℕ) (n : Node) → slice_get nodes id ≡ Some n
    → Fits inputs (widths_of (take id nodes)) n

-- a graph of which each node fits after those before it
pub record IsDag (graph : Graph) : Type 0 where
  pub all_fit : AllFit graph.inputs graph.nodes

-- the graph with one more node
abbrev pub with_node : Graph → Node → Graph
with_node graph n = record { inputs = graph.inputs; nodes = graph.nodes ++ n ∷ [] }

-- what the node at a place is worth
abbrev pub val : Graph → ℕ → List ℕ → BitVector
val graph id input = vector_at (values input graph.nodes) id

-- the number that the node at a place is worth
abbrev pub number_of : Graph → ℕ → List ℕ → ℕ
number_of graph id input = (val graph id input).number

-- the width of the node at a place
abbrev pub width_of : Graph → ℕ → ℕ
width_of graph id = width_in graph.nodes id
