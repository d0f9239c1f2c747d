-- The terms that some terms of a graph stand on.
use Rattle.std.specs.Prelude.{◌≡◌, ◌<◌, ℕ, List, All, Contains, Some, length, slice_get}
use Rattle.std.specs.List.Sorted.{IsStrictlyIncreasing}
use Rattle.bv_dag.specs.Graphs.{Graph}
use Rattle.bv_dag.specs.declared.nodes.Node.{Node}
use Rattle.query_pick.specs.Operands.{operands}

-- A term that stands under some terms: it is one of them, or an operand of one that does.
pub data IsUnder (graph : Graph) (tops : List ℕ) : ℕ → Type 0 where
  top : {id : ℕ} → Contains tops id → IsUnder graph tops id
  operand : {id a : ℕ} (node : Node) → IsUnder graph tops id → slice_get graph.nodes id ≡ Some node
      → Contains (operands node) a → IsUnder graph tops a

-- the operands of the term at a place are all among these
abbrev pub HasOperands : Graph → List ℕ → ℕ → Type 0
HasOperands graph places id = (node : Node) → slice_get graph.nodes id ≡ Some node
    → All (Contains places) (operands node)

-- These are the places of all terms under some terms, in order and once each.
pub record IsCone (graph : Graph) (tops places : List ℕ) : Type 0 where
  pub increasing : IsStrictlyIncreasing places
  pub there : All (λ id. id < length graph.nodes) places
  pub tops_in : All (Contains places) tops
  pub operands_in : All (HasOperands graph places) places
  pub under : All (IsUnder graph tops) places
