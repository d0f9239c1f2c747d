-- Which operations move bits, by their numbers.
use Rattle.std.proofs.Common.{◌≡◌, true, false, Some, None, refl}
use Rattle.std.specs.Prelude.{Option}
use Rattle.bv_dag.specs.BitVectors.{BitVector}
use Rattle.bv_dag.specs.declared.nodes.BinaryOp.{BinaryOp}
use Rattle.bv_dag.specs.declared.nodes.BinaryOp.TheVariants.{Add, Sub, Mul, Udiv, Urem, And, Or, Xor, Shl, Lshr, Ashr}
use Rattle.term_trees.specs.Trees.{Tree}
use Rattle.term_simplify.specs.Moves.{way_of, way_tree}
use Rattle.term_simplify.specs.Simplified.{moved, moves}
use Rattle.term_simplify.specs.declared.moves.Way.{Way}
use Rattle.term_simplify.specs.declared.moves.Way.TheVariants.{Up, Down}

pub moves_so : (op : BinaryOp) (way : Way) (y : BitVector) (s otherwise : Tree) → way_of op ≡ Some way → moves y ≡ true →
    moved op None (Some y) s otherwise ≡ way_tree way y.width y.number s
moves_so Shl Up y s otherwise e h = rw h refl
moves_so Lshr (Down false) y s otherwise e h = rw h refl
moves_so Ashr (Down true) y s otherwise e h = rw h refl
moves_so Shl (Down signed) y s otherwise e h = cc
moves_so Lshr Up y s otherwise e h = cc
moves_so Lshr (Down true) y s otherwise e h = cc
moves_so Ashr Up y s otherwise e h = cc
moves_so Ashr (Down false) y s otherwise e h = cc
moves_so Add way y s otherwise e h = cc
moves_so Sub way y s otherwise e h = cc
moves_so Mul way y s otherwise e h = cc
moves_so Udiv way y s otherwise e h = cc
moves_so Urem way y s otherwise e h = cc
moves_so And way y s otherwise e h = cc
moves_so Or way y s otherwise e h = cc
moves_so Xor way y s otherwise e h = cc

-- ---- nothing is moved by what is no shift,
pub no_way : (op : BinaryOp) (x y : Option BitVector) (s otherwise : Tree) → way_of op ≡ None → moved op x y s otherwise ≡ otherwise
no_way Shl x y s otherwise e = cc
no_way Lshr x y s otherwise e = cc
no_way Ashr x y s otherwise e = cc
no_way Add x y s otherwise e = refl
no_way Sub x y s otherwise e = refl
no_way Mul x y s otherwise e = refl
no_way Udiv x y s otherwise e = refl
no_way Urem x y s otherwise e = refl
no_way And x y s otherwise e = refl
no_way Or x y s otherwise e = refl
no_way Xor x y s otherwise e = refl

-- of a number,
pub of_number : (op : BinaryOp) (x : BitVector) (y : Option BitVector) (s otherwise : Tree) → moved op (Some x) y s otherwise ≡ otherwise
of_number Shl x y s otherwise = refl
of_number Lshr x y s otherwise = refl
of_number Ashr x y s otherwise = refl
of_number Add x y s otherwise = refl
of_number Sub x y s otherwise = refl
of_number Mul x y s otherwise = refl
of_number Udiv x y s otherwise = refl
of_number Urem x y s otherwise = refl
of_number And x y s otherwise = refl
of_number Or x y s otherwise = refl
of_number Xor x y s otherwise = refl

-- by what is no number,
pub by_term : (op : BinaryOp) (s otherwise : Tree) → moved op None None s otherwise ≡ otherwise
by_term Shl s otherwise = refl
by_term Lshr s otherwise = refl
by_term Ashr s otherwise = refl
by_term Add s otherwise = refl
by_term Sub s otherwise = refl
by_term Mul s otherwise = refl
by_term Udiv s otherwise = refl
by_term Urem s otherwise = refl
by_term And s otherwise = refl
by_term Or s otherwise = refl
by_term Xor s otherwise = refl

-- or by a number that moves none, or all of them out
pub by_others : (op : BinaryOp) (y : BitVector) (s otherwise : Tree) → moves y ≡ false → moved op None (Some y) s otherwise ≡ otherwise
by_others Shl y s otherwise h = rw h refl
by_others Lshr y s otherwise h = rw h refl
by_others Ashr y s otherwise h = rw h refl
by_others Add y s otherwise h = refl
by_others Sub y s otherwise h = refl
by_others Mul y s otherwise h = refl
by_others Udiv y s otherwise h = refl
by_others Urem y s otherwise h = refl
by_others And y s otherwise h = refl
by_others Or y s otherwise h = refl
by_others Xor y s otherwise h = refl
