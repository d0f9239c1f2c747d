-- An operation of two operands is worth what it was before it was simplified.
use Rattle.std.proofs.Common.{◌≡◌, ℕ, ◌-◌, ◌^◌, ◌<◌, List, Some, None, refl, ap, sym, ◌∙◌}
use Rattle.std.specs.Prelude.{Option}
use Rattle.std.specs.List.{All}
use Rattle.bv_dag.specs.BitVectors.{BitVector}
use Rattle.bv_dag.specs.Nodes.{binary}
use Rattle.bv_dag.specs.declared.nodes.BinaryOp.{BinaryOp}
use Rattle.bv_dag.specs.declared.nodes.BinaryOp.TheVariants.{Add, Sub, Mul, Udiv, Urem, And, Or, Xor, Shl, Lshr, Ashr}
use Rattle.term_trees.specs.Trees.{Tree, Constant, Negated, Two, tree_width, tree_value, IsTerm, IsOfWidth}
use Rattle.term_trees.proofs.Ranges.{in_range}
use Rattle.term_simplify.specs.Plain.{tree_number, number_first, number_second, binary_by, plain_binary}
use Rattle.term_simplify.proofs.Masking.{value-masked_first, value-masked_second}
use Rattle.term_simplify.proofs.Words.{number_value, value_by_test, is_number, is_at_most}
use Rattle.term_simplify.proofs.Sums.{zero_plus, plus_zero, less_zero, zero_less}
use Rattle.term_simplify.proofs.Products.{zero_times, one_times, times_zero, times_one, udiv_by_zero, udiv_by_one, urem_by_zero, urem_by_one}
use Rattle.term_simplify.proofs.Bits.{zero_and, and_zero, ones_and, and_with_ones, zero_or, or_zero, ones_or, or_with_ones, zero_xor, xor_zero}
use Rattle.term_simplify.proofs.Shifts.{shl_by_zero, shl_by_width, zero_shl, lshr_by_zero, lshr_by_width, zero_lshr, ashr_by_zero, zero_ashr}

-- the values of two operands, of one width
module _ (input : List ℕ) (w : ℕ) (s t : Tree) (p : IsOfWidth w (tree_value input s)) (q : IsOfWidth w (tree_value input t)) where
  value-number_first : (op : BinaryOp) →
      tree_value input (number_first op (tree_value input s) s t) ≡ binary op (tree_value input s) (tree_value input t)
  value-number_first Add = value_by_test input _ t _ _ (λ h. zero_plus w _ _ p q (is_number _ _ h)) (λ _. refl)
  value-number_first Sub = value_by_test input _ (Negated t) _ _ (λ h. zero_less w _ _ p q (is_number _ _ h)) (λ _. refl)
  value-number_first Mul = value_by_test input _ s _ _ (λ h. zero_times w _ _ p q (is_number _ _ h))
      (λ _. value_by_test input _ t _ _ (λ h. one_times w _ _ p q (is_number _ _ h)) (λ _. refl))
  value-number_first Udiv = refl
  value-number_first Urem = refl
  value-number_first And = value_by_test input _ s _ _ (λ h. zero_and w _ _ p q (is_number _ _ h))
      (λ _. value_by_test input _ t _ _ (λ h. ones_and w _ _ p q (is_number _ _ h)) (λ _. refl))
  value-number_first Or = value_by_test input _ t _ _ (λ h. zero_or w _ _ p q (is_number _ _ h))
      (λ _. value_by_test input _ s _ _ (λ h. ones_or w _ _ p q (is_number _ _ h)) (λ _. refl))
  value-number_first Xor = value_by_test input _ t _ _ (λ h. zero_xor w _ _ p q (is_number _ _ h)) (λ _. refl)
  value-number_first Shl = value_by_test input _ s _ _ (λ h. zero_shl w _ _ p q (is_number _ _ h)) (λ _. refl)
  value-number_first Lshr = value_by_test input _ s _ _ (λ h. zero_lshr w _ _ p q (is_number _ _ h)) (λ _. refl)
  value-number_first Ashr = value_by_test input _ s _ _ (λ h. zero_ashr w _ _ p q (is_number _ _ h)) (λ _. refl)

  value-number_second : (op : BinaryOp) →
      tree_value input (number_second op (tree_value input t) s t) ≡ binary op (tree_value input s) (tree_value input t)
  value-number_second Add = value_by_test input _ s _ _ (λ h. plus_zero w _ _ p q (is_number _ _ h)) (λ _. refl)
  value-number_second Sub = value_by_test input _ s _ _ (λ h. less_zero w _ _ p q (is_number _ _ h)) (λ _. refl)
  value-number_second Mul = value_by_test input _ t _ _
      (λ h. times_zero w _ _ p q (is_number _ _ h)) (λ _. value_by_test input _ s _ _
      (λ h. times_one w _ _ p q (is_number _ _ h)) (λ _. refl))
  value-number_second Udiv = value_by_test input _ (Constant (tree_value input t).width
      (2 ^ (tree_value input t).width - 1)) _ _ (λ h. udiv_by_zero w _ _ p q (is_number _ _ h))
      (λ _. value_by_test input _ s _ _ (λ h. udiv_by_one w _ _ p q (is_number _ _ h)) (λ _. refl))
  value-number_second Urem = value_by_test input _ s _ _
      (λ h. urem_by_zero w _ _ p q (is_number _ _ h)) (λ _. value_by_test input _
      (Constant (tree_value input t).width 0) _ _ (λ h. urem_by_one w _ _ p q (is_number _ _ h))
      (λ _. refl))
  value-number_second And = value_by_test input _ t _ _ (λ h. and_zero w _ _ p q (is_number _ _ h))
      (λ _. value_by_test input _ s _ _ (λ h. and_with_ones w _ _ p q (is_number _ _ h)) (λ _. refl))
  value-number_second Or = value_by_test input _ s _ _ (λ h. or_zero w _ _ p q (is_number _ _ h))
      (λ _. value_by_test input _ t _ _ (λ h. or_with_ones w _ _ p q (is_number _ _ h)) (λ _. refl))
  value-number_second Xor = value_by_test input _ s _ _ (λ h. xor_zero w _ _ p q (is_number _ _ h)) (λ _. refl)
  value-number_second Shl = value_by_test input _ s _ _
      (λ h. shl_by_zero w _ _ p q (is_number _ _ h)) (λ _. value_by_test input _
      (Constant (tree_value input t).width 0) _ _ (λ h. shl_by_width w _ _ p q (is_at_most _ _ h))
      (λ _. refl))
  value-number_second Lshr = value_by_test input _ s _ _
      (λ h. lshr_by_zero w _ _ p q (is_number _ _ h)) (λ _. value_by_test input _
      (Constant (tree_value input t).width 0) _ _ (λ h. lshr_by_width w _ _ p q (is_at_most _ _ h))
      (λ _. refl))
  value-number_second Ashr = value_by_test input _ s _ _ (λ h. ashr_by_zero w _ _ p q (is_number _ _ h)) (λ _. refl)

  value-binary_by : (op : BinaryOp) (x y : Option BitVector) → tree_number s ≡ x →
      tree_number t ≡ y →
      tree_value input (binary_by op x y s t) ≡ binary op (tree_value input s) (tree_value input t)
  value-binary_by op (Some x) (Some y) e f = sym (cc (number_value input s x e, number_value input t y f))
  value-binary_by op (Some x) None e f =
      ap (λ (v : BitVector). tree_value input (number_first op v s t)) (sym (number_value input s x e)) ∙ value-number_first op
  value-binary_by op None (Some y) e f =
      ap (λ (v : BitVector). tree_value input (number_second op v s t)) (sym (number_value input t y f)) ∙ value-number_second op
  value-binary_by op None None e f = refl

pub value-plain_binary : (inputs : ℕ) (input : List ℕ) (op : BinaryOp) (s t : Tree) →
    All (λ b. b < 256) input → IsTerm inputs (Two op s t) →
    tree_value input (plain_binary op s t) ≡ tree_value input (Two op s t)
unfolding plain_binary
value-plain_binary inputs input op s t bytes term =
    value-masked_first inputs input op (tree_number s) s t _ bytes term refl
    (value-masked_second inputs input op (tree_number t) s t _ bytes term refl
    (value-binary_by input (tree_width s) s t (in_range inputs input bytes s term.0)
    (rw term.2 (in_range inputs input bytes t term.1)) op _ _ refl refl))
