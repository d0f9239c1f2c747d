-- What a call of the builder makes of a graph.
use Rattle.std.specs.Prelude.{◌≡◌, ◌<◌, ℕ, List, All, length}
use Rattle.bv_dag.specs.BitVectors.{BitVector}
use Rattle.bv_dag.specs.Graphs.{Graph, val, width_of}
use Rattle.bv_dag.specs.Nodes.{node_value, node_width, widths_of}
use Rattle.bv_dag.specs.declared.nodes.Node.{Node}
use Rattle.term_trees.specs.Growth.{Continues}
use Rattle.term_trees.specs.Trees.{Tree, tree_of}
use Rattle.term_simplify.specs.Simplified.{simplified}

-- the answer of a call: the graph goes on, the term is there, is this tree, has so many bits, and
-- is worth this
pub record Builds (old new : Graph) (id : ℕ) (made : Tree) (bits : ℕ) (word : List ℕ → BitVector) :
    Type 0 where
  pub continues : Continues old new
  pub there : id < length new.nodes
  pub tree : tree_of new id ≡ made
  pub width : width_of new id ≡ bits
  pub value : (input : List ℕ) → All (λ b. b < 256) input → val new id input ≡ word input

-- this tree for a node: as wide as the node, and worth what the node is worth
abbrev pub BuildsAs : (made : Tree) → (old new : Graph) → Node → (id : ℕ) → Type 0
BuildsAs made old new node id =
    Builds old new id made (node_width (widths_of old.nodes) node)
    (λ input. node_value input (λ k. val old k input) node)

-- the answer for a node: its simplified tree, as wide as the node, and worth what the node is worth
abbrev pub BuildsNode : (old new : Graph) → Node → (id : ℕ) → Type 0
BuildsNode old new node id = BuildsAs (simplified (tree_of old) node) old new node id
