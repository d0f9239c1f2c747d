-- Terms unfolded. A term of a graph names its operands by their places; its tree has the operands themselves in it, each as
-- often as it is named. Trees are what two graphs can be compared by. What an operation is worth is as SMT-LIB's theory
-- FixedSizeBitVectors has it.
use Rattle.std.specs.Prelude.{◌≡◌, ℕ, ◌+◌, ◌-◌, ◌<◌, ◌≤◌, ◌^◌, Bool, List, slice_index, slice_index_or}
use Rattle.bv_dag.specs.BitVectors.{BitVector, IsBitVector, bvnot, bvneg, ite, extract, concat}
use Rattle.bv_dag.specs.Graphs.{Graph}
use Rattle.bv_dag.specs.Nodes.{binary, compare, extend, map_in_turn}
use Rattle.bv_dag.specs.declared.nodes.BinaryOp.{BinaryOp}
use Rattle.bv_dag.specs.declared.nodes.Comparison.{Comparison}
use Rattle.bv_dag.specs.declared.nodes.Node.{Node}
use Rattle.bv_dag.specs.declared.nodes.Node.TheVariants.{Num, Input, Not, Neg, Binary, Compare, Ite, Extract, Extend, Concat}

-- one constructor for each kind of node
pub data Tree : Type 0 where
  Constant : (width value : ℕ) → Tree
  Byte : (index : ℕ) → Tree
  Complement : Tree → Tree
  Negated : Tree → Tree
  Two : BinaryOp → Tree → Tree → Tree
  Test : Comparison → Tree → Tree → Tree
  Choice : (condition yes no : Tree) → Tree
  Part : (high low : ℕ) → Tree → Tree
  Widened : (by : ℕ) → (signed : Bool) → Tree → Tree
  Joined : (high low : Tree) → Tree

-- the tree of a node, from those of its operands
abbrev pub node_tree : (operand : ℕ → Tree) → Node → Tree
node_tree operand (Num w v) = Constant w v
node_tree operand (Input i) = Byte i
node_tree operand (Not a) = Complement (operand a)
node_tree operand (Neg a) = Negated (operand a)
node_tree operand (Binary op a b) = Two op (operand a) (operand b)
node_tree operand (Compare op a b) = Test op (operand a) (operand b)
node_tree operand (Ite c a b) = Choice (operand c) (operand a) (operand b)
node_tree operand (Extract high low a) = Part high low (operand a)
node_tree operand (Extend by signed a) = Widened by signed (operand a)
node_tree operand (Concat a b) = Joined (operand a) (operand b)

-- the tree at a place, and a number of no bits past the end
abbrev pub tree_at : List Tree → ℕ → Tree
tree_at trees k = slice_index_or trees k (Constant 0 0)

-- the trees of nodes, each from those before it
unfoldable pub trees : List Node → List Tree
trees nodes = map_in_turn (λ before n. node_tree (tree_at before) n) nodes

-- the tree of the term at a place
abbrev pub tree_of : Graph → ℕ → Tree
tree_of graph id = tree_at (trees graph.nodes) id

-- the number of bits of a tree
abbrev pub tree_width : Tree → ℕ
tree_width (Constant w v) = w
tree_width (Byte i) = 8
tree_width (Complement t) = tree_width t
tree_width (Negated t) = tree_width t
tree_width (Two op s t) = tree_width s
tree_width (Test op s t) = 1
tree_width (Choice c s t) = tree_width s
tree_width (Part high low t) = high - low + 1
tree_width (Widened by signed t) = tree_width t + by
tree_width (Joined s t) = tree_width s + tree_width t

-- what a tree is worth, from the input bytes
abbrev pub tree_value : List ℕ → Tree → BitVector
tree_value input (Constant w v) = record { width = w; number = v }
tree_value input (Byte i) = record { width = 8; number = slice_index input i }
tree_value input (Complement t) = bvnot (tree_value input t)
tree_value input (Negated t) = bvneg (tree_value input t)
tree_value input (Two op s t) = binary op (tree_value input s) (tree_value input t)
tree_value input (Test op s t) = compare op (tree_value input s) (tree_value input t)
tree_value input (Choice c s t) = ite (tree_value input c) (tree_value input s) (tree_value input t)
tree_value input (Part high low t) = extract high low (tree_value input t)
tree_value input (Widened by signed t) = extend signed by (tree_value input t)
tree_value input (Joined s t) = concat (tree_value input s) (tree_value input t)

-- each operand is as wide as its place in the tree wants it, and no tree has more than 64 bits
abbrev pub IsTerm : (inputs : ℕ) → Tree → Type 0
IsTerm inputs (Constant w v) = IsBitVector w v
IsTerm inputs (Byte i) = i < inputs
IsTerm inputs (Complement t) = IsTerm inputs t
IsTerm inputs (Negated t) = IsTerm inputs t
IsTerm inputs (Two op s t) = IsTerm inputs s × IsTerm inputs t × (tree_width s ≡ tree_width t)
IsTerm inputs (Test op s t) = IsTerm inputs s × IsTerm inputs t × (tree_width s ≡ tree_width t)
IsTerm inputs (Choice c s t) = IsTerm inputs c × IsTerm inputs s × IsTerm inputs t
    × (tree_width c ≡ 1) × (tree_width s ≡ tree_width t)
IsTerm inputs (Part high low t) = IsTerm inputs t × (low ≤ high) × (high < tree_width t)
IsTerm inputs (Widened by signed t) = IsTerm inputs t × (1 ≤ by) × (tree_width t + by ≤ 64)
IsTerm inputs (Joined s t) = IsTerm inputs s × IsTerm inputs t × (tree_width s + tree_width t ≤ 64)

-- a bit-vector of this width, of 1 to 64 bits
pub record IsOfWidth (w : ℕ) (s : BitVector) : Type 0 where
  pub width : s.width ≡ w
  pub not_empty : 0 < w
  pub at_most_64 : w ≤ 64
  pub in_range : s.number < 2 ^ w
