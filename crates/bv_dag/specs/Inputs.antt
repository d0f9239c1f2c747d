-- The input bytes that stand under the terms of a graph, and those that a condition rests on.
use Rattle.std.specs.Prelude.{◌≡◌, ◌≢◌, ℕ, List, [], ◌∷◌, ◌++◌, slice_index, slice_index_or}
use Rattle.std.specs.List.{flat_map, Contains}
use Rattle.bv_dag.specs.Graphs.{Graph}
use Rattle.bv_dag.specs.Nodes.{map_in_turn}
use Rattle.bv_dag.specs.Queries.{Condition}
use Rattle.bv_dag.specs.declared.nodes.Node.{Node}
use Rattle.bv_dag.specs.declared.nodes.Node.TheVariants.{Num, Input, Not, Neg, Binary, Compare, Ite, Extract, Extend, Concat}

-- the input bytes under a term, from those under its operands
abbrev pub node_inputs : (operand : ℕ → List ℕ) → Node → List ℕ
node_inputs operand (Num w v) = []
node_inputs operand (Input i) = i ∷ []
node_inputs operand (Not a) = operand a
node_inputs operand (Neg a) = operand a
node_inputs operand (Binary op a b) = operand a ++ operand b
node_inputs operand (Compare op a b) = operand a ++ operand b
node_inputs operand (Ite c a b) = operand c ++ operand a ++ operand b
node_inputs operand (Extract high low a) = operand a
node_inputs operand (Extend by signed a) = operand a
node_inputs operand (Concat high low) = operand high ++ operand low

-- those under the term at a place
abbrev pub inputs_at : List (List ℕ) → ℕ → List ℕ
inputs_at under k = slice_index_or under k []

-- those under each term of a table
unfoldable pub inputs_of : List Node → List (List ℕ)
inputs_of nodes = map_in_turn (λ before n. node_inputs (inputs_at before) n) nodes

-- those under the term at a place of a graph
abbrev pub inputs_under : Graph → ℕ → List ℕ
inputs_under graph id = inputs_at (inputs_of graph.nodes) id

-- those under the terms that a condition asserts
abbrev pub asserted_inputs : Condition → List ℕ
asserted_inputs q = flat_map (inputs_at (inputs_of q.graph.nodes)) q.asserted

-- two different bytes are among these
pub record HasTwo (inputs : List ℕ) : Type 0 where
  pub first : ℕ
  pub second : ℕ
  pub differ : first ≢ second
  pub first_there : Contains inputs first
  pub second_there : Contains inputs second

-- two lists of bytes have the same at each of these places
abbrev pub AgreeOn : (one other places : List ℕ) → Type 0
AgreeOn one other places = (i : ℕ) → Contains places i → slice_index one i ≡ slice_index other i
