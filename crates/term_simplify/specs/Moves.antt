-- The bits that a shift by a number moves, as the code finds them.
use Rattle.std.specs.Prelude.{◌≡◌, ℕ, ◌<◌, false, true, Option, None, Some}
use Rattle.bv_dag.specs.Graphs.{Graph, width_of}
use Rattle.bv_dag.specs.declared.nodes.BinaryOp.{BinaryOp}
use Rattle.bv_dag.specs.declared.nodes.BinaryOp.TheVariants.{Shl, Lshr, Ashr}
use Rattle.bv_dag.specs.declared.nodes.Node.{Node}
use Rattle.bv_dag.specs.declared.nodes.Node.TheVariants.{Binary, Compare}
use Rattle.term_trees.specs.Trees.{Tree, tree_of}
use Rattle.term_simplify.specs.Simplified.{asked, made_of, moved_down, moved_up, operated, simplified}
use Rattle.term_simplify.specs.declared.moves.Move.{Move}
use Rattle.term_simplify.specs.declared.moves.Way.{Way}
use Rattle.term_simplify.specs.declared.moves.Way.TheVariants.{Up, Down}

-- the way of a shift
abbrev pub way_of : BinaryOp → Option Way
way_of Shl = Some Up
way_of Lshr = Some (Down false)
way_of Ashr = Some (Down true)
way_of op = None

-- the tree of a term whose bits are moved
abbrev pub way_tree : Way → (width by : ℕ) → Tree → Tree
way_tree Up width by t = moved_up width by t
way_tree (Down signed) width by t = moved_down width by signed t

abbrev pub move_tree : Graph → Move → Tree
move_tree graph m = way_tree m.way m.width m.by (tree_of graph m.operand)

-- some bits of a term are moved, but not all of them out
pub record IsMove (graph : Graph) (m : Move) : Type 0 where
  pub wide : width_of graph m.operand ≡ m.width
  pub some : 0 < m.by
  pub within : m.by < m.width

-- the simplified tree of a node whose value isn't told
abbrev pub unvalued : (operand : ℕ → Tree) → Node → Tree
unvalued operand (Binary op a b) = operated op (operand a) (operand b)
unvalued operand node = simplified operand node

-- and which moves no bits
abbrev pub unshifted : (operand : ℕ → Tree) → Node → Tree
unshifted operand (Binary op a b) = made_of op (operand a) (operand b)
unshifted operand node = simplified operand node

-- and is no test of a number below a sum
abbrev pub unmoved : (operand : ℕ → Tree) → Node → Tree
unmoved operand (Compare op a b) = asked op (operand a) (operand b)
unmoved operand node = unshifted operand node
