-- A test is worth what it was before it was simplified, and so is a complement or a negative.
use Rattle.std.proofs.Common.{◌≡◌, ◌==◌, ◌&&◌, ℕ, ◌+◌, ◌-◌, ◌^◌, ◌<◌, ◌≤◌, true, false, not, cond, List, Some, None, refl, ap, sym, subst, ◌∙◌, arith, inl, inr}
use Rattle.std.specs.Prelude.{Option}
use Rattle.std.specs.List.{All}
use Rattle.std.proofs.lemmas.Bool.Decides.{eqb_tells}
use Rattle.bv_dag.specs.BitVectors.{BitVector, bvnot, bvult, bvslt, equal, bit, zero_extend, is_negative}
use Rattle.bv_dag.specs.Nodes.{compare}
use Rattle.bv_dag.specs.declared.nodes.Comparison.{Comparison}
use Rattle.bv_dag.specs.declared.nodes.Comparison.TheVariants.{Ult, Slt, Eq}
use Rattle.bv_dag.proofs.Numbers.{wider}
use Rattle.term_trees.specs.Trees.{Tree, Constant, Complement, Negated, Test, Widened, tree_width, tree_value, IsTerm, IsOfWidth}
use Rattle.term_trees.proofs.Ranges.{in_range}
use Rattle.term_simplify.specs.Plain.{tree_number, complement_of, plain_negative, excludes, bit_under, bit_is, equality_of, test_first, test_second, comparison_by, plain_comparison}
use Rattle.term_simplify.proofs.Words.{by_parts, number_value, value_by_test, is_number, is_apart, tests_unequal, tests_equal, tests_below, tests_not_below, is_at_most, not_at_most}
use Rattle.term_simplify.proofs.Sums.{twice_not, twice_neg}

pub value-complement_of : (inputs : ℕ) (input : List ℕ) (t : Tree) → All (λ b. b < 256) input →
    IsTerm inputs t → tree_value input (complement_of t) ≡ tree_value input (Complement t)
unfolding complement_of
value-complement_of inputs input (Constant w v) bytes term = refl
value-complement_of inputs input (Complement t) bytes term = twice_not (tree_width t) _ (in_range inputs input bytes t term)
value-complement_of inputs input t bytes term = refl

pub value-plain_negative : (inputs : ℕ) (input : List ℕ) (t : Tree) → All (λ b. b < 256) input →
    IsTerm inputs t → tree_value input (plain_negative t) ≡ tree_value input (Negated t)
unfolding plain_negative
value-plain_negative inputs input (Constant w v) bytes term = refl
value-plain_negative inputs input (Negated t) bytes term = twice_neg (tree_width t) _ (in_range inputs input bytes t term)
value-plain_negative inputs input t bytes term = refl

-- ---- a term that excludes a number
-- it is below the number, and not negative; and a negative number of its width is beyond its range
record IsNarrow (w n : ℕ) (v : BitVector) : Type 0 where
  below : v.number < n
  positive : v.number < 2 ^ (w - 1)

half_range : (w k : ℕ) → k < w → 2 ^ k ≤ 2 ^ (w - 1)
half_range w k h = wider k (w - 1) (omega arith)

narrow : (inputs : ℕ) (input : List ℕ) (t : Tree) (n : ℕ) → All (λ b. b < 256) input →
    IsTerm inputs t → excludes t n ≡ true → IsNarrow (tree_width t) n (tree_value input t)
unfolding zero_extend
narrow inputs input (Widened by false t) n bytes term e =
    let inner : (tree_value input t).number < 2 ^ tree_width t = (in_range inputs input bytes t term.0).in_range in
    let half : 2 ^ tree_width t ≤ 2 ^ (tree_width t + by - 1) = half_range (tree_width t + by) (tree_width t) (omega (arith, term.1)) in
    record { below = omega (arith, inner, is_at_most (2 ^ tree_width t) n e); positive = omega (arith, inner, half) }
narrow inputs input (Widened by true t) n bytes term e = cc
narrow inputs input t n bytes term e = cc

pub not_negative : (w : ℕ) (v : BitVector) → v.width ≡ w → v.number < 2 ^ (w - 1) →
    is_negative v ≡ false
not_negative w v e h =
    elim (is_negative v) as (λ b. (is_negative v ≡ b → b ≡ false)) [
      | true ↦ λ f. let k : 2 ^ (v.width - 1) ≡ 2 ^ (w - 1) = ap (λ j. 2 ^ (j - 1)) e in absurd
          (omega (arith, is_at_most _ _ f, k, h))
      | false ↦ λ f. refl
    ] refl

-- a number and a narrow term, by sign
number_then_narrow : (w : ℕ) (x v : BitVector) → v.width ≡ w → IsNarrow w x.number v →
    bit (is_negative x) ≡ bvslt x v
unfolding bvslt
number_then_narrow w x v e h =
    rw (not_negative w v e h.positive, tests_not_below x.number v.number (omega (arith, h.below)))
    (elim (is_negative x) as (λ b. bit b ≡ bit (cond b true false)) [ true ↦ refl | false ↦ refl ])

narrow_then_number : (w : ℕ) (v y : BitVector) → v.width ≡ w → IsNarrow w y.number v →
    bit (not (is_negative y)) ≡ bvslt v y
unfolding bvslt
narrow_then_number w v y e h =
    rw (not_negative w v e h.positive, tests_below v.number y.number h.below)
    (elim (is_negative y) as (λ b. bit (not b) ≡ bit (not b && true)) [ true ↦ refl | false ↦ refl ])

-- ---- a term of one bit, alone or widened by zeros: where it excludes no number, that is 1 or 0
record IsBitUnder (inputs : ℕ) (input : List ℕ) (t b : Tree) : Type 0 where
  term : IsTerm inputs b
  one : tree_width b ≡ 1
  same : (tree_value input b).number ≡ (tree_value input t).number
  small : (n : ℕ) → n < 2 ^ tree_width t → excludes t n ≡ false → n ≤ 1

pub one_bit : (w n : ℕ) → w ≡ 1 → n < 2 ^ w → n ≤ 1
one_bit w n e h = let two : 2 ^ w ≡ 2 = ap (λ k. 2 ^ k) e in omega (arith, two, h)

itself_or_none : (inputs : ℕ) (input : List ℕ) (t b : Tree) → IsTerm inputs t →
    cond (tree_width t == 1) (Some t) None ≡ Some b → (t ≡ b) × (tree_width t ≡ 1)
itself_or_none inputs input t b term =
    elim (tree_width t == 1) as (λ k. ((tree_width t == 1) ≡ k → cond k (Some t) None ≡ Some b → (t ≡ b) × (tree_width t ≡ 1))) [
      | true ↦ λ one is. let same : t ≡ b = cc in (same, is_number _ _ one)
      | false ↦ λ one is. cc
    ] refl

bit_alone : (inputs : ℕ) (input : List ℕ) (t b : Tree) → IsTerm inputs t →
    cond (tree_width t == 1) (Some t) None ≡ Some b → IsBitUnder inputs input t b
bit_alone inputs input t b term is =
    let i : (t ≡ b) × (tree_width t ≡ 1) = itself_or_none inputs input t b term is in
    record {
      term = subst (IsTerm inputs) i.0 term;
      one = ap tree_width (sym i.0) ∙ i.1;
      same = ap (λ k. (tree_value input k).number) (sym i.0);
      small = λ n h e. one_bit (tree_width t) n i.1 h;
    }

bit_under_zeros : (inputs : ℕ) (input : List ℕ) (by : ℕ) (t b : Tree) → IsTerm inputs t →
    cond (tree_width t == 1) (Some t) None ≡ Some b →
    IsBitUnder inputs input (Widened by false t) b
unfolding zero_extend
bit_under_zeros inputs input by t b term is =
    let i : (t ≡ b) × (tree_width t ≡ 1) = itself_or_none inputs input t b term is in
    record {
      term = subst (IsTerm inputs) i.0 term;
      one = ap tree_width (sym i.0) ∙ i.1;
      same = ap (λ k. (tree_value input k).number) (sym i.0);
      small = λ n h e. one_bit (tree_width t) n i.1 (not_at_most (2 ^ tree_width t) n e);
    }

bit_found : (inputs : ℕ) (input : List ℕ) (t b : Tree) → IsTerm inputs t → bit_under t ≡ Some b →
    IsBitUnder inputs input t b
bit_found inputs input (Widened by false t) b term is = bit_under_zeros inputs input by t b term.0 is
bit_found inputs input (Widened by true t) b term is = bit_alone inputs input (Widened by true t) b term is
bit_found inputs input t b term is = bit_alone inputs input t b term is

pub bit_of_one : (v : BitVector) → v.width ≡ 1 → v.number ≤ 1 → v ≡ bit (v.number == 1)
bit_of_one v e h =
    elim (v.number == 1) as (λ b. ((v.number == 1) ≡ b → v ≡ bit b)) [
      | true ↦ λ f. by_parts 1 1 v e (is_number _ _ f)
      | false ↦ λ f. by_parts 1 0 v e (omega (arith, is_apart _ _ f, h))
    ] refl

pub complement_of_bit : (v : BitVector) → v.width ≡ 1 → v.number ≤ 1 → bvnot v ≡ bit (v.number == 0)
unfolding bvnot
complement_of_bit v e h =
    elim (v.number == 0) as (λ b. ((v.number == 0) ≡ b → record { width = v.width; number = 2 ^ v.width - 1 - v.number } ≡ bit b)) [
      | true ↦ λ f. by_parts 1 1 _ e (ap (λ k. 2 ^ k - 1 - v.number) e ∙ ap (λ k. 1 - k) (is_number _ _ f))
      | false ↦ λ f. by_parts 1 0 _ e (ap (λ k. 2 ^ k - 1 - v.number) e ∙ omega (arith, is_apart _ _ f, h))
    ] refl

module _ (inputs : ℕ) (input : List ℕ) (bytes : All (λ b. b < 256) input) (t : Tree) (n : ℕ) (otherwise : Tree) (target : BitVector)
    (term : IsTerm inputs t) (within : n < 2 ^ tree_width t) (is : bit ((tree_value input t).number == n) ≡ target) (plain : tree_value input otherwise ≡ target) where
  value-bit_is : (b : Option Tree) → bit_under t ≡ b → excludes t n ≡ false →
      tree_value input (bit_is b n otherwise) ≡ target
  value-bit_is None e f = plain
  value-bit_is (Some b) e f =
      let i : IsBitUnder inputs input t b = bit_found inputs input t b term e in
      let v : IsOfWidth (tree_width b) (tree_value input b) = in_range inputs input bytes b i.term in
      let small : (tree_value input b).number ≤ 1 = one_bit (tree_width b) _ i.one v.in_range in
      value_by_test input (n == 1) b (complement_of b) target
      (λ h. bit_of_one (tree_value input b) (v.width ∙ i.one) small ∙ ap (λ k. bit (k == 1)) i.same
      ∙ ap (λ k. bit ((tree_value input t).number == k)) (sym (is_number _ _ h)) ∙ is)
      (λ h. let zero : 0 ≡ n = omega (arith, i.small n within f, is_apart _ _ h) in
      value-complement_of inputs input b bytes i.term ∙ complement_of_bit (tree_value input b) (v.width ∙ i.one) small
      ∙ ap (λ k. bit (k == 0)) i.same ∙ ap (λ k. bit ((tree_value input t).number == k)) zero ∙ is)

  value-equality_of : tree_value input (equality_of t n otherwise) ≡ target
  value-equality_of =
      value_by_test input (excludes t n) (Constant 1 0) (bit_is (bit_under t) n otherwise) target
      (λ h. ap bit (sym (tests_unequal _ _ (λ same. omega (arith, (narrow inputs input t n bytes term h).below, same)))) ∙ is)
      (λ h. value-bit_is (bit_under t) refl h)

test_turned : (a b : ℕ) → (a == b) ≡ (b == a)
test_turned a b = elim (eqb_tells a b) [
  | inl e ↦ e.0 ∙ sym (tests_equal b a (sym e.1))
  | inr e ↦ e.0
      ∙ sym (tests_unequal b a (λ f. e.1 (sym f)))
]

-- ---- two operands of one width
module _ (inputs : ℕ) (input : List ℕ) (bytes : All (λ b. b < 256) input) (s t : Tree)
    (p : IsTerm inputs s) (q : IsTerm inputs t) (wide : tree_width s ≡ tree_width t) where
  first_in : IsOfWidth (tree_width s) (tree_value input s)
  first_in = in_range inputs input bytes s p

  second_in : IsOfWidth (tree_width t) (tree_value input t)
  second_in = in_range inputs input bytes t q

  value-test_first : (op : Comparison) →
      tree_value input (test_first op (tree_value input s) s t) ≡ compare op (tree_value input s) (tree_value input t)
  unfolding bvult equal
  value-test_first Ult =
      value_by_test input (excludes t (tree_value input s).number) (Constant 1 0) (Test Ult s t) _
      (λ h. ap bit (sym (tests_not_below (tree_value input s).number (tree_value input t).number
      (omega (arith, (narrow inputs input t (tree_value input s).number bytes q h).below)))))
      (λ _. refl)
  value-test_first Slt =
      value_by_test input _ (Constant _ _) _ _ (λ h. number_then_narrow (tree_width t)
      (tree_value input s) (tree_value input t) second_in.width
      (narrow inputs input t _ bytes q h)) (λ _. refl)
  value-test_first Eq =
      value-equality_of inputs input bytes t (tree_value input s).number (Test Eq s t)
      (equal (tree_value input s) (tree_value input t)) q (rw (← wide) first_in.in_range)
      (ap bit (test_turned (tree_value input t).number (tree_value input s).number)) refl

  value-test_second : (op : Comparison) →
      tree_value input (test_second op (tree_value input t) s t) ≡ compare op (tree_value input s) (tree_value input t)
  unfolding bvult equal
  value-test_second Ult =
      value_by_test input ((tree_value input t).number == 0) (Constant 1 0)
      (cond (excludes s (tree_value input t).number) (Constant 1 1) (Test Ult s t)) _
      (λ h. ap bit (sym (tests_not_below (tree_value input s).number (tree_value input t).number
      (omega (arith, is_number (tree_value input t).number 0 h)))))
      (λ _. value_by_test input (excludes s (tree_value input t).number) (Constant 1 1) (Test Ult s t) _
      (λ h. ap bit (sym (tests_below _ _ (narrow inputs input s _ bytes p h).below))) (λ _. refl))
  value-test_second Slt =
      value_by_test input _ (Constant _ _) _ _ (λ h. narrow_then_number (tree_width s)
      (tree_value input s) (tree_value input t) first_in.width
      (narrow inputs input s _ bytes p h)) (λ _. refl)
  value-test_second Eq =
      value-equality_of inputs input bytes s (tree_value input t).number (Test Eq s t)
      (equal (tree_value input s) (tree_value input t)) p (rw wide second_in.in_range) refl refl

  value-comparison_by : (op : Comparison) (x y : Option BitVector) → tree_number s ≡ x →
      tree_number t ≡ y →
      tree_value input (comparison_by op x y s t) ≡ compare op (tree_value input s) (tree_value input t)
  value-comparison_by op (Some x) (Some y) e f = sym (cc (number_value input s x e, number_value input t y f))
  value-comparison_by op (Some x) None e f =
      ap (λ (v : BitVector). tree_value input (test_first op v s t)) (sym (number_value input s x e)) ∙ value-test_first op
  value-comparison_by op None (Some y) e f =
      ap (λ (v : BitVector). tree_value input (test_second op v s t)) (sym (number_value input t y f)) ∙ value-test_second op
  value-comparison_by op None None e f = refl

pub value-plain_comparison : (inputs : ℕ) (input : List ℕ) (op : Comparison) (s t : Tree) →
    All (λ b. b < 256) input → IsTerm inputs (Test op s t) →
    tree_value input (plain_comparison op s t) ≡ tree_value input (Test op s t)
unfolding plain_comparison
value-plain_comparison inputs input op s t bytes term = value-comparison_by inputs input bytes s t
    term.0 term.1 term.2 op _ _ refl refl
