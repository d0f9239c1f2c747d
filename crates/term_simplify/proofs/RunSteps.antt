-- Terms that are joined with a number, cut into its runs, step by step.
use Rattle.std.proofs.Common.{◌≡◌, ◌∙◌, ℕ, ◌<◌, ◌≤◌, Bool, true, List, length, Some, ap, sym, arith}
use Rattle.std.specs.Prelude.{◌&&◌}
use Rattle.std.specs.List.{All}
use Rattle.std.proofs.lemmas.Bool.{and_parts}
use Rattle.std.proofs.lemmas.Nat.{and_comm, or_comm, xor_comm}
use Rattle.bv_dag.specs.BitVectors.{BitVector, IsBitVector, bvand, bvor, bvxor}
use Rattle.bv_dag.specs.Graphs.{Graph, IsDag, val, width_of}
use Rattle.bv_dag.specs.Nodes.{binary}
use Rattle.bv_dag.specs.declared.nodes.BinaryOp.{BinaryOp}
use Rattle.bv_dag.specs.declared.nodes.BinaryOp.TheVariants.{Add, Sub, Mul, Udiv, Urem, And, Or, Xor, Shl, Lshr, Ashr}
use Rattle.bv_dag.proofs.TermLaws.{width-val}
use Rattle.term_trees.specs.Growth.{Continues}
use Rattle.term_trees.specs.Trees.{IsOfWidth, IsTerm, tree_of}
use Rattle.term_trees.proofs.Ranges.{in_range}
use Rattle.term_trees.proofs.Terms.{is_term}
use Rattle.term_trees.proofs.TreeLaws.{tree-grown, value-tree_of, width-tree_of}
use Rattle.term_simplify.specs.Plain.{part_of, tree_number}
use Rattle.term_simplify.specs.Runs.{IsMask, is_bitwise}
use Rattle.term_simplify.specs.Steps.{Stands}
use Rattle.term_simplify.specs.declared.runs.Mask.{Mask}
use Rattle.term_simplify.proofs.Multiplying.{worth_as}
use Rattle.term_simplify.proofs.LiftRules.{term-part_of}
use Rattle.term_simplify.proofs.Words.{by_parts}

pub own_word : (g : Graph) (a w : ℕ) (input : List ℕ) → All (λ b. b < 256) input → IsTerm g.inputs (tree_of g a) → width_of g a ≡ w → IsOfWidth w (val g a input)
own_word g a w input bytes term wide =
    rw (← value-tree_of g a input, ← wide, ← width-tree_of g a) (in_range g.inputs input bytes (tree_of g a) term)

-- the same tree is a term as the graph goes on
pub grown_term : (g h : Graph) (a : ℕ) → Continues g h → a < length g.nodes → IsTerm g.inputs (tree_of g a) → IsTerm h.inputs (tree_of h a)
grown_term g h a grown there term = rw (grown.inputs, tree-grown g h a grown there) term

-- bits of a term that stand somewhere are a term
pub part_stands : {F : List ℕ → BitVector} (g h : Graph) (a id w high low : ℕ) → Continues g h → IsTerm g.inputs (tree_of g a) → width_of g a ≡ w →
    low ≤ high → high < w → {k : ℕ} → Stands h id (part_of high low (tree_of g a)) k F → IsTerm h.inputs (tree_of h id)
part_stands g h a id w high low grown term wide order within n =
    rw (n.tree, grown.inputs) (term-part_of g.inputs (tree_of g a) high low term order (omega (arith, within, wide, width-tree_of g a)))

-- ---- masks that are found
pub mask_is : (g : Graph) (a : ℕ) (y : BitVector) (m : Mask) → IsDag g → a < length g.nodes → width_of g a ≡ y.width → IsBitVector y.width y.number →
    m ≡ record { operand = a; width = y.width; number = y.number } → IsMask g m
mask_is g a y m dag there wide number is = rw is (record { wide = wide; number = number; term = is_term g a dag there })

turned_word : (op : BinaryOp) → is_bitwise op ≡ true → (x y : BitVector) → x.width ≡ y.width → binary op x y ≡ binary op y x
unfolding bvand bvor bvxor
turned_word And e x y wide = by_parts y.width _ _ wide (and_comm x.number y.number)
turned_word Or e x y wide = by_parts y.width _ _ wide (or_comm x.number y.number)
turned_word Xor e x y wide = by_parts y.width _ _ wide (xor_comm x.number y.number)
turned_word Add e x y wide = cc
turned_word Sub e x y wide = cc
turned_word Mul e x y wide = cc
turned_word Udiv e x y wide = cc
turned_word Urem e x y wide = cc
turned_word Shl e x y wide = cc
turned_word Lshr e x y wide = cc
turned_word Ashr e x y wide = cc

pub second_worth : (g : Graph) (op : BinaryOp) (a b : ℕ) (y : BitVector) (m : Mask) → tree_number (tree_of g b) ≡ Some y →
    m ≡ record { operand = a; width = y.width; number = y.number } → (input : List ℕ) →
    binary op (val g m.operand input) (record { width = m.width; number = m.number }) ≡ binary op (val g a input) (val g b input)
second_worth g op a b y m number is input = rw is (ap (binary op (val g a input)) (sym (worth_as g b y number input)))

pub first_worth : (g : Graph) (op : BinaryOp) (a b : ℕ) (x : BitVector) (m : Mask) → is_bitwise op ≡ true → width_of g a ≡ width_of g b → tree_number (tree_of g a) ≡ Some x →
    m ≡ record { operand = b; width = x.width; number = x.number } → (input : List ℕ) →
    binary op (val g m.operand input) (record { width = m.width; number = m.number }) ≡ binary op (val g a input) (val g b input)
first_worth g op a b x m bits wide number is input =
    rw is (ap (binary op (val g b input)) (sym (worth_as g a x number input))
    ∙ turned_word op bits (val g b input) (val g a input) (width-val g b input ∙ sym wide ∙ sym (width-val g a input)))

pub bits_of : (op : BinaryOp) (other c : Bool) → c ≡ (is_bitwise op && other) → c ≡ true → is_bitwise op ≡ true
bits_of op other c is holds = and_parts_first (is_bitwise op) other (sym is ∙ holds)
  where
    and_parts_first : (a b : Bool) → (a && b) ≡ true → a ≡ true
    and_parts_first a b h = let (p, q) = and_parts a b h in p
