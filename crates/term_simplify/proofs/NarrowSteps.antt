-- Terms made of low bits, step by step.
use Rattle.std.proofs.Common.{◌≡◌, ◌∙◌, ℕ, ◌%◌, ◌^◌, ◌<◌, Bool, true, false, List, Some, ap, refl, sym, arith, inl, inr}
use Rattle.std.specs.Prelude.{Option}
use Rattle.std.proofs.Math.Nat.{mod-eq_of_lt}
use Rattle.std.proofs.lemmas.Nat.{pow_pos}
use Rattle.bv_dag.specs.BitVectors.{BitVector}
use Rattle.bv_dag.specs.Graphs.{Graph, val, width_of}
use Rattle.bv_dag.specs.declared.nodes.BinaryOp.{BinaryOp}
use Rattle.bv_dag.specs.declared.nodes.Node.{Node}
use Rattle.term_trees.specs.Growth.{Continues}
use Rattle.term_trees.specs.Trees.{Tree, tree_of, tree_width}
use Rattle.term_trees.proofs.TreeLaws.{width-tree_of}
use Rattle.term_simplify.specs.Ends.{may_divide_by_zero}
use Rattle.term_simplify.specs.Narrowing.{IsFewer, binary_narrowing, node_narrowing}
use Rattle.term_simplify.specs.Simplified.{low_of, narrowed, or_ones_at, widened_to}
use Rattle.term_simplify.specs.Steps.{Stands, low_word, or_ones_word_at, widened_word}
use Rattle.term_simplify.specs.Times.{own_binary}
use Rattle.term_simplify.specs.declared.narrowing.Narrow.{Narrow}
use Rattle.term_simplify.proofs.Stepping.{Stands-grown, one_step, two_step}
use Rattle.term_simplify.proofs.Truncations.{low_is}
use Rattle.term_simplify.proofs.Words.{le_tells}

-- the second operand, when the first one's low bits are there
pub second_grown : {g h : Graph} (a b : ℕ) (n : Narrow) → Continues g h → IsFewer n (width_of g a) → width_of g a ≡ width_of g b →
    Stands h b (tree_of g b) (width_of g b) (λ input. val g b input)
second_grown {g = g} a b n grown fewer same = Stands-grown b (width_of g b) grown refl (omega (arith, fewer.fewer, same))

pub second_fewer : {g h : Graph} (a b : ℕ) (n : Narrow) → Continues g h → IsFewer n (width_of g a) → width_of g a ≡ width_of g b →
    IsFewer n (width_of h b)
second_fewer a b n grown fewer same =
    record { some = fewer.some; fewer = omega (arith, (second_grown a b n grown fewer same).width, same, fewer.fewer) }

pub low_step : {g h : Graph} {a id : ℕ} {s : Tree} {w : ℕ} {F : List ℕ → BitVector} (n : Narrow) → Stands g a s w F →
    Stands h id (low_of n (tree_of g a)) n.bits (λ input. low_word n (val g a input)) →
    Stands h id (low_of n s) n.bits (λ input. low_word n (F input))
low_step n first low = one_step (low_of n) (low_word n) first low

-- what is made of low bits, widened to the width of a term
pub widened_step : (g : Graph) {h more : Graph} {k id : ℕ} {made : Tree} {F : List ℕ → BitVector} (a width : ℕ) (n : Narrow) → width ≡ width_of g a →
    Stands h k made n.bits F →
    Stands more id (widened_to width n (tree_of h k)) width (λ input. widened_word width n (val h k input)) →
    Stands more id (widened_to (tree_width (tree_of g a)) n made) (width_of g a) (λ input. widened_word (width_of g a) n (F input))
widened_step g a width n e core last =
    rw (width-tree_of g a, ← e) (one_step (widened_to width n) (widened_word width n) core last)

-- and all ones where the divisor is 0
pub or_ones_step : (g : Graph) {h more : Graph} {k j id : ℕ} {t q : Tree} {w : ℕ} {F G : List ℕ → BitVector} (a width : ℕ) (n : Narrow) → width ≡ width_of g a →
    Stands h k t n.bits F → Stands h j q w G →
    Stands more id (or_ones_at width n (tree_of h k) (tree_of h j)) width (λ input. or_ones_word_at width n (val h k input) (val h j input)) →
    Stands more id (or_ones_at (tree_width (tree_of g a)) n t q) (width_of g a) (λ input. or_ones_word_at (width_of g a) n (F input) (G input))
or_ones_step g a width n e divisor quotient last =
    rw (width-tree_of g a, ← e) (two_step (or_ones_at width n) (or_ones_word_at width n) divisor quotient last)

-- how few bits a node takes, as it is found in an equal graph
pub narrowing_here : (h g : Graph) (node : Node) (r o : Option Narrow) → h ≡ g → r ≡ node_narrowing (tree_of h) node → r ≡ o →
    node_narrowing (tree_of g) node ≡ o
narrowing_here h g node r o e is found = ap (λ (k : Graph). node_narrowing (tree_of k) node) (sym e) ∙ sym is ∙ found

-- a term of which a low bit is 1 isn't 0
pub some_by_low : (n : Narrow) (x : BitVector) → 0 < n.bits → 0 < (low_word n x).number → 0 < x.number
some_by_low n x bits some =
    let low = ap (λ (v : BitVector). v.number) (low_is n.bits x bits) in
    elim (le_tells 1 x.number) [
      | inl h ↦ h.1
      | inr h ↦ let none : x.number ≡ 0 = omega (arith, h.1) in absurd (omega (arith, some, low, ap (λ k. k % 2 ^ n.bits) none, mod-eq_of_lt (pow_pos n.bits)))
    ]

-- ---- the tree of an operation made of low bits
pub result_by_zero : (op : BinaryOp) (s t d : Tree) (n : Narrow) → binary_narrowing op s t ≡ Some n → d ≡ low_of n t →
    {may : Bool} → may ≡ may_divide_by_zero op d → may ≡ true →
    or_ones_at (tree_width s) n (low_of n t) (widened_to (tree_width s) n (own_binary op (low_of n s) (low_of n t))) ≡ narrowed op s t
result_by_zero op s t d n is e told may = rw (is, ← e, ← told, may) refl

pub result_widened : (op : BinaryOp) (s t d : Tree) (n : Narrow) → binary_narrowing op s t ≡ Some n → d ≡ low_of n t →
    {may : Bool} → may ≡ may_divide_by_zero op d → may ≡ false →
    widened_to (tree_width s) n (own_binary op (low_of n s) (low_of n t)) ≡ narrowed op s t
result_widened op s t d n is e told may = rw (is, ← e, ← told, may) refl
