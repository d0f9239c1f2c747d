-- A choice is worth what it was before it was simplified.
use Rattle.std.proofs.Common.{◌≡◌, ◌==◌, ◌&&◌, ℕ, ◌<◌, ◌≤◌, Bool, true, false, cond, List, Some, None, refl, ap, sym, ◌∙◌, arith}
use Rattle.std.specs.Prelude.{Option}
use Rattle.std.specs.List.{All}
use Rattle.bv_dag.specs.BitVectors.{BitVector, bit, ite}
use Rattle.term_trees.specs.Trees.{Tree, Choice, tree_width, tree_value, IsTerm, IsOfWidth}
use Rattle.term_trees.proofs.Ranges.{in_range}
use Rattle.term_simplify.specs.Plain.{tree_number, complement_of, bit_choice, choice_between, choice_on, plain_choice}
use Rattle.term_simplify.proofs.Words.{by_number, by_parts, number_value, value_by_test, is_number, is_apart}
use Rattle.term_simplify.proofs.TestRules.{value-complement_of, one_bit, bit_of_one, complement_of_bit}

-- what three tests say that hold together
all_three : (a b c : Bool) → (a && b && c) ≡ true → (a ≡ true) × (b ≡ true) × (c ≡ true)
all_three true true c h = (refl, refl, h)
all_three true false c h = cc
all_three false b c h = cc

-- of two equal numbers
alike : (b : Bool) (x y : BitVector) → x.number ≡ y.number → x ≡ record { width = x.width; number = cond b x.number y.number }
alike true x y e = refl
alike false x y e = by_number x y.number e

as_bit : (n : ℕ) (x y : BitVector) → x.width ≡ 1 → x.number ≡ 1 → y.number ≡ 0 →
    bit (n == 1) ≡ record { width = x.width; number = cond (n == 1) x.number y.number }
as_bit n x y e f g = rw (e, f, g) refl

flipped : (n : ℕ) → n ≤ 1 → (n == 0) ≡ cond (n == 1) false true
flipped n h =
    elim (n == 0) as (λ b. ((n == 0) ≡ b → b ≡ cond (n == 1) false true)) [
      | true ↦ λ e. rw (is_number n 0 e) refl
      | false ↦ λ e. let one : n ≡ 1 = omega (arith, is_apart n 0 e, h) in rw one refl
    ] refl

as_complement : (n : ℕ) (x y : BitVector) → n ≤ 1 → x.width ≡ 1 → x.number ≡ 0 → y.number ≡ 1 →
    bit (n == 0) ≡ record { width = x.width; number = cond (n == 1) x.number y.number }
as_complement n x y h e f g =
    rw (e, f, g, flipped n h) (elim (n == 1) as (λ b. bit (cond b false true) ≡ record
    { width = 1; number = cond b 0 1 }) [ true ↦ refl | false ↦ refl ])

module _ (inputs : ℕ) (input : List ℕ) (bytes : All (λ b. b < 256) input) (c s t : Tree) (term : IsTerm inputs (Choice c s t)) where
  condition_in : IsOfWidth 1 (tree_value input c)
  condition_in = rw (← term.3) (in_range inputs input bytes c term.0)

  condition_small : (tree_value input c).number ≤ 1
  condition_small = one_bit 1 _ refl condition_in.in_range

  yes_in : IsOfWidth (tree_width s) (tree_value input s)
  yes_in = in_range inputs input bytes s term.1

  no_in : IsOfWidth (tree_width s) (tree_value input t)
  no_in = rw term.4 (in_range inputs input bytes t term.2)

  value-bit_choice : tree_value input (bit_choice (tree_value input s) (tree_value input t) c s t) ≡ tree_value input (Choice c s t)
  unfolding ite
  value-bit_choice =
      value_by_test input _ s _ _
      (λ h. alike ((tree_value input c).number == 1) (tree_value input s) (tree_value input t) (is_number _ _ h))
      (λ _. value_by_test input _ c _ _
      (λ h. let each = all_three _ _ _ h in
      bit_of_one (tree_value input c) condition_in.width condition_small
      ∙ as_bit (tree_value input c).number (tree_value input s) (tree_value input t)
      (is_number _ _ each.0) (is_number _ _ each.1) (is_number _ _ each.2))
      (λ _. value_by_test input _ (complement_of c) (Choice c s t) _
      (λ h. let each = all_three _ _ _ h in
      value-complement_of inputs input c bytes term.0 ∙ complement_of_bit (tree_value input c) condition_in.width condition_small
      ∙ as_complement (tree_value input c).number (tree_value input s) (tree_value input t)
      condition_small (is_number _ _ each.0) (is_number _ _ each.1) (is_number _ _ each.2))
      (λ _. refl)))

  value-choice_between : (x y : Option BitVector) → tree_number s ≡ x → tree_number t ≡ y →
      tree_value input (choice_between x y c s t) ≡ tree_value input (Choice c s t)
  value-choice_between (Some x) (Some y) e f =
      ap (λ (v : BitVector). tree_value input (bit_choice v y c s t)) (sym (number_value input s x e))
      ∙ ap (λ (v : BitVector). tree_value input (bit_choice (tree_value input s) v c s t)) (sym (number_value input t y f))
      ∙ value-bit_choice
  value-choice_between (Some x) None e f = refl
  value-choice_between None y e f = refl

  value-choice_on : (x : Option BitVector) → tree_number c ≡ x →
      tree_value input (choice_on x c s t) ≡ tree_value input (Choice c s t)
  unfolding ite
  value-choice_on (Some x) e =
      rw (number_value input c x e) (value_by_test input (x.number == 1) s t _ (λ h. rw h refl)
      (λ h. rw h (by_parts _ _ (tree_value input t) (no_in.width ∙ sym yes_in.width) refl)))
  value-choice_on None e = value-choice_between _ _ refl refl

pub value-plain_choice : (inputs : ℕ) (input : List ℕ) (c s t : Tree) → All (λ b. b < 256) input →
    IsTerm inputs (Choice c s t) →
    tree_value input (plain_choice c s t) ≡ tree_value input (Choice c s t)
unfolding plain_choice
value-plain_choice inputs input c s t bytes term = value-choice_on inputs input bytes c s t term _ refl
