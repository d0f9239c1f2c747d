-- Terms of a graph that have been evaluated.
use Rattle.std.specs.Prelude.{◌≡◌, ◌≤◌, ℕ, List, length, take}
use Rattle.bv_dag.specs.BitVectors.{BitVector}
use Rattle.bv_dag.specs.Graphs.{Graph}
use Rattle.bv_dag.specs.Nodes.{values}

-- the words are what the first terms of a graph are worth
pub record AreFirstWords (graph : Graph) (input : List ℕ) (words : List BitVector) : Type 0 where
  pub few : length words ≤ length graph.nodes
  pub worth : words ≡ values input (take (length words) graph.nodes)
