-- The zeros that a term is known to have at its low end are there, and what is made of the bits above them is worth what is made of the terms.
use Rattle.std.proofs.Common.{◌≡◌, ◌∙◌, ℕ, ◌+◌, ◌-◌, ◌*◌, ◌^◌, ◌%◌, ◌<◌, ◌≤◌, Bool, true, false, cond, List, Some, None, refl, ap, sym, subst, arith, min}
use Rattle.std.specs.Prelude.{Option, ◌&&◌, nat_lt, if◌then◌else◌}
use Rattle.std.specs.List.{All}
use Rattle.std.proofs.lemmas.Bool.{and_parts, ltb-true}
use Rattle.bv_dag.specs.BitVectors.{BitVector, concat, is_negative, sign_extend, zero_extend}
use Rattle.bv_dag.specs.Graphs.{Graph, val, width_of}
use Rattle.bv_dag.specs.Nodes.{binary, compare, extend}
use Rattle.bv_dag.specs.declared.nodes.BinaryOp.{BinaryOp}
use Rattle.bv_dag.specs.declared.nodes.BinaryOp.TheVariants.{Add, Sub, Mul, Udiv, Urem, And, Or, Xor, Shl, Lshr, Ashr}
use Rattle.bv_dag.specs.declared.nodes.Comparison.{Comparison}
use Rattle.term_trees.specs.Trees.{Tree, Constant, Two, Test, Widened, Joined, tree_of, tree_width, tree_value, IsTerm, IsOfWidth}
use Rattle.term_trees.proofs.Ranges.{in_range}
use Rattle.term_trees.proofs.TreeLaws.{value-tree_of, width-tree_of}
use Rattle.term_simplify.specs.Narrowing.{is_zero}
use Rattle.term_simplify.specs.Plain.{tree_number}
use Rattle.term_simplify.specs.Zeros.{alike, binary_above, binary_zeros, common_zeros, comparison_above, comparison_zeros, joined_zeros, leaving_some, binary_over_zeros, comparison_over_zeros, low_zeros, test_above, word_above, LeavesSome}
use Rattle.term_simplify.specs.declared.zeros.Zeros.{Zeros}
use Rattle.term_simplify.proofs.JointRules.{is_0}
use Rattle.term_simplify.proofs.ZeroNumbers.{EndsIn, difference_above, ends_in_fewer, ends_in_none, ends_in_signs, ends_in_sum, ends_in_times, ends_in_trailing, product_above, sum_above, tests_above}

-- ---- zeros that are left out
open_if : (b : Bool) (r : Option Zeros) (z : Zeros) → (if b then None else r) ≡ Some z → r ≡ Some z
open_if false r z e = e
open_if true r z e = cc

-- zeros that leave some bits of so many
record AreLeft (width : ℕ) (z y : Zeros) : Type 0 where
  same : z ≡ y
  some : 0 < z.result
  fewer : z.result < width

left : (w : ℕ) (z y : Zeros) → leaving_some w z ≡ Some y → AreLeft w z y
left w z y e = by_test (nat_lt 0 z.result && nat_lt z.result w) refl e
  where
    by_test : (b : Bool) → (nat_lt 0 z.result && nat_lt z.result w) ≡ b → (if b then Some z else None) ≡ Some y → AreLeft w z y
    by_test true h f =
        let (some, fewer) = and_parts (nat_lt 0 z.result) (nat_lt z.result w) h in
        record { same = cc; some = ltb-true 0 z.result some; fewer = ltb-true z.result w fewer }
    by_test false h f = cc

module _ (inputs : ℕ) (input : List ℕ) (bytes : All (λ b. b < 256) input) where
  -- ---- zeros of a term
  joined_ends : (t : Tree) → IsTerm inputs t → (joined_zeros t ≤ tree_width t) × EndsIn (joined_zeros t) (tree_value input t).number
  unfolding concat
  joined_ends (Joined s z) term = by_test (is_zero (tree_number z)) refl
    where
      zero_width : (tree_value input z).width ≡ tree_width z
      zero_width = (in_range inputs input bytes z term.1).width

      by_test : (b : Bool) → is_zero (tree_number z) ≡ b →
          (cond b (tree_width z) 0 ≤ tree_width s + tree_width z) × EndsIn (cond b (tree_width z) 0) (tree_value input (Joined s z)).number
      by_test true h =
          let n = (tree_value input s).number in
          let number : n * 2 ^ (tree_value input z).width + (tree_value input z).number ≡ n * 2 ^ tree_width z =
          ap (λ k. n * 2 ^ k + (tree_value input z).number) zero_width ∙ omega (arith, is_0 input z h) in
          (omega arith, ap (λ m. m % 2 ^ tree_width z) number ∙ ends_in_times (tree_width z) n)
      by_test false h = (omega arith, ends_in_none _)
  joined_ends t term = (omega arith, ends_in_none _)

  widened_ends : (k by : ℕ) (signed : Bool) (x : BitVector) → k ≤ x.width → EndsIn k x.number → EndsIn k (extend signed by x).number
  unfolding sign_extend zero_extend
  widened_ends k by false x few e = e
  widened_ends k by true x few e =
      elim (is_negative x) as (λ b. EndsIn k (cond b (x.number + (2 ^ (x.width + by) - 2 ^ x.width)) x.number)) [
        | true ↦ ends_in_sum k x.number _ e (ends_in_signs x.width by k few)
        | false ↦ e
      ]

  pub low_ends : (t : Tree) → IsTerm inputs t → EndsIn (low_zeros t) (tree_value input t).number
  low_ends (Constant w v) term = ends_in_trailing 64 v
  low_ends (Widened by signed t) term =
      let parts = joined_ends t term.0 in
      widened_ends (joined_zeros t) by signed (tree_value input t) (rw (in_range inputs input bytes t term.0).width parts.0) parts.1
  low_ends t term = (joined_ends t term).1

  -- ---- what is made of the bits above
  module _ (s t : Tree) (term : IsTerm inputs s) (term' : IsTerm inputs t) (wide : tree_width s ≡ tree_width t) where
    first : IsOfWidth (tree_width s) (tree_value input s)
    first = in_range inputs input bytes s term

    second : IsOfWidth (tree_width s) (tree_value input t)
    second = rw wide (in_range inputs input bytes t term')

    first_ends : EndsIn (min (low_zeros s) (low_zeros t)) (tree_value input s).number
    first_ends = ends_in_fewer (low_zeros s) _ _ (omega arith) (low_ends s term)

    second_ends : EndsIn (min (low_zeros s) (low_zeros t)) (tree_value input t).number
    second_ends = ends_in_fewer (low_zeros t) _ _ (omega arith) (low_ends t term')

    -- by what is worth as much with zeros in common
    in_common : {X : Type 0} (z : Zeros) (made : Zeros → X) (worth : X) → common_zeros s t ≡ Some z →
        (min (low_zeros s) (low_zeros t) < tree_width s → made (alike (min (low_zeros s) (low_zeros t))) ≡ worth) → made z ≡ worth
    in_common z made worth is same =
        let l = left (tree_width s) (alike (min (low_zeros s) (low_zeros t))) z is in
        ap made (sym l.same) ∙ same l.fewer

    pub of_binary : (op : BinaryOp) (z : Zeros) → binary_zeros op s t ≡ Some z →
        word_above (tree_width s - z.result) z op (tree_value input s) (tree_value input t) ≡ binary op (tree_value input s) (tree_value input t)
    of_binary Add z is =
        in_common z (λ y. word_above (tree_width s - y.result) y Add (tree_value input s) (tree_value input t)) _ (open_if _ _ z is)
        (λ fewer. sum_above (tree_width s) _ _ _ first second fewer first_ends second_ends)
    of_binary Sub z is =
        in_common z (λ y. word_above (tree_width s - y.result) y Sub (tree_value input s) (tree_value input t)) _ (open_if _ _ z is)
        (λ fewer. difference_above (tree_width s) _ _ _ first second fewer first_ends second_ends)
    of_binary Mul z is =
        let l = left (tree_width s) _ z (open_if _ _ z is) in
        ap (λ (y : Zeros). word_above (tree_width s - y.result) y Mul (tree_value input s) (tree_value input t)) (sym l.same)
        ∙ product_above (tree_width s) (low_zeros s) (low_zeros t) _ _ first.width l.fewer (low_ends s term) (low_ends t term')
    of_binary Udiv z is = cc
    of_binary Urem z is = cc
    of_binary And z is = cc
    of_binary Or z is = cc
    of_binary Xor z is = cc
    of_binary Shl z is = cc
    of_binary Lshr z is = cc
    of_binary Ashr z is = cc

    pub of_comparison : (op : Comparison) (z : Zeros) → comparison_zeros s t ≡ Some z →
        test_above (tree_width s - z.result) z op (tree_value input s) (tree_value input t) ≡ compare op (tree_value input s) (tree_value input t)
    of_comparison op z is =
        in_common z (λ y. test_above (tree_width s - y.result) y op (tree_value input s) (tree_value input t)) _ (open_if _ _ z is)
        (λ fewer. tests_above (tree_width s) _ op _ _ first second fewer first_ends second_ends)

-- ---- how many they are
common_leaves : (s t : Tree) (z : Zeros) → common_zeros s t ≡ Some z → LeavesSome (tree_width s) z
common_leaves s t z is =
    let k = min (low_zeros s) (low_zeros t) in
    let l = left (tree_width s) (alike k) z is in
    subst (LeavesSome (tree_width s)) l.same (record { some = l.some; fewer = l.fewer; first = omega arith; second = omega arith })

pub comparison_leaves : (s t : Tree) (z : Zeros) → comparison_zeros s t ≡ Some z → LeavesSome (tree_width s) z
comparison_leaves s t z is = common_leaves s t z (open_if _ _ z is)

pub binary_leaves : (op : BinaryOp) (s t : Tree) (z : Zeros) → binary_zeros op s t ≡ Some z → LeavesSome (tree_width s) z
binary_leaves Add s t z is = common_leaves s t z (open_if _ _ z is)
binary_leaves Sub s t z is = common_leaves s t z (open_if _ _ z is)
binary_leaves Mul s t z is =
    let j = low_zeros s in
    let k = low_zeros t in
    let first : j ≤ j + k = omega arith in
    let second : k ≤ j + k = omega arith in
    let l = left (tree_width s) (record { first = j; second = k; result = j + k }) z (open_if _ _ z is) in
    subst (LeavesSome (tree_width s)) l.same (record { some = l.some; fewer = l.fewer; first = first; second = second })
binary_leaves Udiv s t z is = cc
binary_leaves Urem s t z is = cc
binary_leaves And s t z is = cc
binary_leaves Or s t z is = cc
binary_leaves Xor s t z is = cc
binary_leaves Shl s t z is = cc
binary_leaves Lshr s t z is = cc
binary_leaves Ashr s t z is = cc

-- ---- trees by the zeros that are found
pub binary_is_over : (op : BinaryOp) (s t : Tree) (z : Option Zeros) → z ≡ binary_zeros op s t → binary_above z op s t ≡ binary_over_zeros op s t
unfolding binary_over_zeros
binary_is_over op s t z is = ap (λ y. binary_above y op s t) is

pub comparison_is_over : (op : Comparison) (s t : Tree) (z : Option Zeros) → z ≡ comparison_zeros s t → comparison_above z op s t ≡ comparison_over_zeros op s t
unfolding comparison_over_zeros
comparison_is_over op s t z is = ap (λ y. comparison_above y op s t) is

-- ---- terms of a graph
module _ (g : Graph) (a b : ℕ) (z : Zeros) where
  pub binary_leaves_here : (op : BinaryOp) → binary_zeros op (tree_of g a) (tree_of g b) ≡ Some z → LeavesSome (width_of g a) z
  binary_leaves_here op is = rw (← width-tree_of g a) (binary_leaves op (tree_of g a) (tree_of g b) z is)

  pub comparison_leaves_here : comparison_zeros (tree_of g a) (tree_of g b) ≡ Some z → LeavesSome (width_of g a) z
  comparison_leaves_here is = rw (← width-tree_of g a) (comparison_leaves (tree_of g a) (tree_of g b) z is)

  module _ (input : List ℕ) (bytes : All (λ b. b < 256) input) where
    pub binary_here : (op : BinaryOp) → IsTerm g.inputs (Two op (tree_of g a) (tree_of g b)) → binary_zeros op (tree_of g a) (tree_of g b) ≡ Some z →
        word_above (width_of g a - z.result) z op (val g a input) (val g b input) ≡ binary op (val g a input) (val g b input)
    binary_here op term is =
        rw (← value-tree_of g a input, ← value-tree_of g b input, ← width-tree_of g a)
        (of_binary g.inputs input bytes (tree_of g a) (tree_of g b) term.0 term.1 term.2 op z is)

    pub comparison_here : (op : Comparison) → IsTerm g.inputs (Test op (tree_of g a) (tree_of g b)) → comparison_zeros (tree_of g a) (tree_of g b) ≡ Some z →
        test_above (width_of g a - z.result) z op (val g a input) (val g b input) ≡ compare op (val g a input) (val g b input)
    comparison_here op term is =
        rw (← value-tree_of g a input, ← value-tree_of g b input, ← width-tree_of g a)
        (of_comparison g.inputs input bytes (tree_of g a) (tree_of g b) term.0 term.1 term.2 op z is)
