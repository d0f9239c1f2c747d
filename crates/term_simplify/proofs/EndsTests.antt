-- A comparison is worth what the ends of its operands tell.
use Rattle.std.proofs.Common.{◌≡◌, ◌==◌, ◌∙◌, ℕ, ◌+◌, ◌-◌, ◌^◌, ◌<◌, ◌≤◌, Bool, true, false, cond, List, Some, None, refl, ap, sym, arith, inl, inr}
use Rattle.std.specs.Prelude.{◌||◌, nat_le, nat_lt}
use Rattle.std.specs.List.{All}
use Rattle.bv_dag.specs.BitVectors.{BitVector, bit, bvnot, bvslt, bvult, equal, is_negative, sign_extend}
use Rattle.bv_dag.specs.Nodes.{compare}
use Rattle.bv_dag.specs.declared.nodes.Comparison.{Comparison}
use Rattle.bv_dag.specs.declared.nodes.Comparison.TheVariants.{Ult, Slt, Eq}
use Rattle.bv_dag.proofs.Numbers.{wider}
use Rattle.term_trees.specs.Trees.{Tree, Test, Widened, tree_width, tree_value, IsTerm, IsOfWidth}
use Rattle.term_trees.proofs.Ranges.{in_range}
use Rattle.term_simplify.specs.Ends.{AreEnds, any_signed, are_apart, by_sign, comparison_told, ends_of, equality_told, is_below, order_told, signed_ends_of, widened_ends}
use Rattle.term_simplify.specs.declared.ends.Ends.{Ends}
use Rattle.term_simplify.proofs.EndsRules.{LiesIn, extended_few, extended_wide, lies_of}
use Rattle.std.proofs.lemmas.Nat.{pow_pos}
use Rattle.term_simplify.proofs.IntervalNumbers.{same_below}
use Rattle.term_simplify.proofs.SignedRange.{two_halves}
use Rattle.term_simplify.proofs.Words.{le_tells, lt_tells, most_false, most_true, tests_below, tests_not_below, tests_unequal}

-- ---- where a number stands in the order with sign
abbrev place : (w : ℕ) → BitVector → ℕ
place w x = cond (nat_le (2 ^ (w - 1)) x.number) (x.number - 2 ^ (w - 1)) (x.number + 2 ^ (w - 1))

negative_at : (w : ℕ) (x : BitVector) → x.width ≡ w → is_negative x ≡ nat_le (2 ^ (w - 1)) x.number
negative_at w x e = ap (λ k. nat_le (2 ^ (k - 1)) x.number) e

upper_place : (w : ℕ) (x : BitVector) → 2 ^ (w - 1) ≤ x.number → place w x ≡ x.number - 2 ^ (w - 1)
upper_place w x h = rw (most_true (2 ^ (w - 1)) x.number h) refl

lower_place : (w : ℕ) (x : BitVector) → x.number < 2 ^ (w - 1) → place w x ≡ x.number + 2 ^ (w - 1)
lower_place w x h = rw (most_false (2 ^ (w - 1)) x.number h) refl

slt_is : (w : ℕ) (x y : BitVector) → 0 < w → x.width ≡ w → y.width ≡ w → x.number < 2 ^ w → y.number < 2 ^ w →
    bvslt x y ≡ bit (nat_lt (place w x) (place w y))
unfolding bvslt
slt_is w x y some e f p q =
    let halves = two_halves w some in
    elim (le_tells (2 ^ (w - 1)) x.number) [
      | inl s ↦ elim (le_tells (2 ^ (w - 1)) y.number) [
        | inl t ↦ rw (negative_at w x e, negative_at w y f, s.0, t.0) (ap bit (same_below _ _ _ _ (λ h. omega (arith, h, s.1, t.1)) (λ h. omega (arith, h, s.1, t.1))))
        | inr t ↦ rw (negative_at w x e, negative_at w y f, s.0, t.0) (ap bit (sym (tests_below _ _ (omega (arith, p, halves, s.1)))))
      ]
      | inr s ↦ elim (le_tells (2 ^ (w - 1)) y.number) [
        | inl t ↦ rw (negative_at w x e, negative_at w y f, s.0, t.0) (ap bit (sym (tests_not_below _ _ (omega (arith, q, halves, t.1)))))
        | inr t ↦ rw (negative_at w x e, negative_at w y f, s.0, t.0) (ap bit (same_below _ _ _ _ (λ h. omega (arith, h)) (λ h. omega (arith, h))))
      ]
    ]

-- a value between two ends in that order
record InOrder (w : ℕ) (a : Ends) (v : BitVector) : Type 0 where
  ends : AreEnds w a
  least : place w a.least ≤ place w v
  greatest : place w v ≤ place w a.greatest
  first : a.least.number < 2 ^ w
  few : a.greatest.number < 2 ^ w

module _ (w : ℕ) (a : Ends) (v : BitVector) (p : IsOfWidth w v) (h : LiesIn w a v) where
  least_negative : is_negative a.least ≡ nat_le (2 ^ (w - 1)) a.least.number
  least_negative = negative_at w a.least h.ends.least

  greatest_negative : is_negative a.greatest ≡ nat_le (2 ^ (w - 1)) a.greatest.number
  greatest_negative = negative_at w a.greatest h.ends.greatest

  all_upper : 2 ^ (w - 1) ≤ a.least.number → InOrder w a v
  all_upper l = record {
    ends = h.ends;
    least = omega (arith, upper_place w a.least l, upper_place w v (omega (arith, l, h.least)), h.least);
    greatest = omega (arith, upper_place w v (omega (arith, l, h.least)), upper_place w a.greatest (omega (arith, l, h.least, h.greatest)), h.greatest);
    first = omega (arith, h.least, p.in_range);
    few = h.few;
  }

  all_lower : a.greatest.number < 2 ^ (w - 1) → InOrder w a v
  all_lower g = record {
    ends = h.ends;
    least = omega (arith, lower_place w a.least (omega (arith, g, h.least, h.greatest)), lower_place w v (omega (arith, g, h.greatest)), h.least);
    greatest = omega (arith, lower_place w v (omega (arith, g, h.greatest)), lower_place w a.greatest g, h.greatest);
    first = omega (arith, h.least, p.in_range);
    few = h.few;
  }

  place_below : place w v < 2 ^ w
  place_below =
      elim (le_tells (2 ^ (w - 1)) v.number) [
        | inl e ↦ omega (arith, upper_place w v e.1, p.in_range)
        | inr e ↦ omega (arith, lower_place w v e.1, e.1, two_halves w p.not_empty)
      ]

  anywhere : (m : ℕ) → m ≡ w → InOrder w (any_signed m) v
  unfolding bvnot
  anywhere m e =
      let halves = two_halves w p.not_empty in
      let lowest : BitVector = record { width = w; number = 2 ^ (w - 1) } in
      let highest : BitVector = record { width = w; number = 2 ^ w - 1 - 2 ^ (w - 1) } in
      let down = upper_place w lowest (omega arith) in
      let up = lower_place w highest (omega (arith, halves, pow_pos (w - 1))) in
      rw e (record {
        ends = record { least = refl; greatest = refl };
        least = omega (arith, down);
        greatest = omega (arith, up, place_below, halves);
        first = omega (arith, halves, pow_pos (w - 1));
        few = omega (arith, halves, pow_pos w);
      })

  signed_lies : InOrder w (by_sign a) v
  signed_lies =
      elim (le_tells (2 ^ (w - 1)) a.greatest.number) [
        | inl g ↦ elim (le_tells (2 ^ (w - 1)) a.least.number) [
          | inl l ↦ rw (greatest_negative ∙ g.0, least_negative ∙ l.0) (all_upper l.1)
          | inr l ↦ rw (greatest_negative ∙ g.0, least_negative ∙ l.0) (anywhere a.least.width h.ends.least)
        ]
        | inr g ↦ rw (greatest_negative ∙ g.0) (all_lower g.1)
      ]

-- ---- of a term that is widened by its sign
place_extended : (w by : ℕ) (x : BitVector) → 0 < w → x.width ≡ w → x.number < 2 ^ w →
    place (w + by) (sign_extend by x) ≡ place w x + (2 ^ (w + by - 1) - 2 ^ (w - 1))
unfolding sign_extend
place_extended w by x some e few =
    let halves = two_halves w some in
    let wide = two_halves (w + by) (omega (arith, some)) in
    let more = wider (w - 1) (w + by - 1) (omega arith) in
    let own : 2 ^ x.width ≡ 2 ^ w = ap (λ k. 2 ^ k) e in
    let whole : 2 ^ (x.width + by) ≡ 2 ^ (w + by) = ap (λ k. 2 ^ (k + by)) e in
    elim (le_tells (2 ^ (w - 1)) x.number) [
      | inl s ↦ rw (negative_at w x e, s.0, own, whole)
          (upper_place (w + by) (record { width = x.width + by; number = x.number + (2 ^ (w + by) - 2 ^ w) }) (omega (arith, s.1, halves, wide, more))
          ∙ omega (arith, s.1, halves, wide, more))
      | inr s ↦ rw (negative_at w x e, s.0)
          (lower_place (w + by) (record { width = x.width + by; number = x.number }) (omega (arith, s.1, more)) ∙ omega (arith, s.1, more))
    ]

order_widened : (w by : ℕ) (a : Ends) (v : BitVector) → IsOfWidth w v → 1 ≤ by → w + by ≤ 64 → InOrder w a v →
    InOrder (w + by) (widened_ends by true a) (sign_extend by v)
order_widened w by a v p some fits h =
    let value = place_extended w by v p.not_empty p.width p.in_range in
    let least = place_extended w by a.least p.not_empty h.ends.least h.first in
    let greatest = place_extended w by a.greatest p.not_empty h.ends.greatest h.few in
    record {
      ends = record { least = extended_wide by true a.least w h.ends.least; greatest = extended_wide by true a.greatest w h.ends.greatest };
      least = omega (arith, value, least, h.least);
      greatest = omega (arith, value, greatest, h.greatest);
      first = extended_few w by true a.least p.not_empty some fits h.ends.least h.first;
      few = extended_few w by true a.greatest p.not_empty some fits h.ends.greatest h.few;
    }

-- ---- tests
some_same : (a b : Bool) → Some a ≡ Some b → a ≡ b
some_same a b e = cc

one_bit : (b : Bool) → ((bit b).number == 1) ≡ b
one_bit true = refl
one_bit false = refl

-- by four ends
order_tells : (al ag bl bg v u : ℕ) (holds : Bool) → al ≤ v → v ≤ ag → bl ≤ u → u ≤ bg →
    cond (nat_lt ag bl) (Some true) (cond (nat_lt al bg) None (Some false)) ≡ Some holds → nat_lt v u ≡ holds
order_tells al ag bl bg v u holds a b d e is =
    elim (lt_tells ag bl) [
      | inl h ↦ let told : Some true ≡ Some holds = rw h.0 at is in tests_below v u (omega (arith, h.1, b, d)) ∙ some_same true holds told
      | inr h ↦ elim (lt_tells al bg) [
        | inl k ↦ let told : None ≡ Some holds = rw (h.0, k.0) at is in cc
        | inr k ↦ let told : Some false ≡ Some holds = rw (h.0, k.0) at is in tests_not_below v u (omega (arith, k.1, a, e)) ∙ some_same false holds told
      ]
    ]

apart_tells : (al ag bl bg v u : ℕ) → al ≤ v → v ≤ ag → bl ≤ u → u ≤ bg → (nat_lt ag bl || nat_lt bg al) ≡ true → v ≡ u → ⊥
apart_tells al ag bl bg v u a b d e is same =
    elim (lt_tells ag bl) [
      | inl h ↦ omega (arith, h.1, a, b, d, e, same)
      | inr h ↦ elim (lt_tells bg al) [
        | inl k ↦ omega (arith, k.1, a, b, d, e, same)
        | inr k ↦ let told : false ≡ true = rw (h.0, k.0) at is in cc
      ]
    ]

either_true : (a b : Bool) (A : Type 0) → (a ≡ true → A) → (b ≡ true → A) → (a || b) ≡ true → A
either_true true b A f g e = f refl
either_true false b A f g e = g e

none_or_false : (b holds : Bool) → cond b (Some false) None ≡ Some holds → (b ≡ true) × (false ≡ holds)
none_or_false true holds e = (refl, some_same false holds e)
none_or_false false holds e = cc

module _ (inputs : ℕ) (input : List ℕ) (bytes : All (λ b. b < 256) input) where
  signed_of : (t : Tree) → IsTerm inputs t → InOrder (tree_width t) (signed_ends_of t) (tree_value input t)
  unfolding signed_ends_of
  signed_of (Widened by true t) term =
      let inner = in_range inputs input bytes t term.0 in
      order_widened (tree_width t) by (by_sign (ends_of t)) (tree_value input t) inner term.1 term.2
      (signed_lies (tree_width t) (ends_of t) (tree_value input t) inner (lies_of inputs input bytes t term.0))
  signed_of (Widened by false t) term =
      signed_lies (tree_width t + by) (ends_of (Widened by false t)) (tree_value input (Widened by false t)) (in_range inputs input bytes (Widened by false t) term)
      (lies_of inputs input bytes (Widened by false t) term)
  signed_of t term =
      signed_lies (tree_width t) (ends_of t) (tree_value input t) (in_range inputs input bytes t term) (lies_of inputs input bytes t term)

  module _ (s t : Tree) (p : IsTerm inputs s) (q : IsTerm inputs t) (wide : tree_width s ≡ tree_width t) where
    second_lies : LiesIn (tree_width s) (ends_of t) (tree_value input t)
    second_lies = rw wide (lies_of inputs input bytes t q)

    second_order : InOrder (tree_width s) (signed_ends_of t) (tree_value input t)
    second_order = rw wide (signed_of t q)

    below_is : (x y : BitVector) → is_below Ult x y ≡ nat_lt x.number y.number
    unfolding bvult
    below_is x y = one_bit (nat_lt x.number y.number)

    less_is : (x y : BitVector) → x.width ≡ tree_width s → y.width ≡ tree_width s → x.number < 2 ^ tree_width s → y.number < 2 ^ tree_width s →
        is_below Slt x y ≡ nat_lt (place (tree_width s) x) (place (tree_width s) y)
    less_is x y e f x_few y_few =
        ap (λ (v : BitVector). v.number == 1) (slt_is (tree_width s) x y (in_range inputs input bytes s p).not_empty e f x_few y_few)
        ∙ one_bit (nat_lt (place (tree_width s) x) (place (tree_width s) y))

    ult_told : (holds : Bool) → order_told Ult (ends_of s) (ends_of t) ≡ Some holds → bvult (tree_value input s) (tree_value input t) ≡ bit holds
    unfolding bvult
    ult_told holds is =
        let a = lies_of inputs input bytes s p in
        let b = second_lies in
        ap bit (order_tells _ _ _ _ _ _ holds a.least a.greatest b.least b.greatest
        (rw (below_is (ends_of s).greatest (ends_of t).least, below_is (ends_of s).least (ends_of t).greatest) at is))

    slt_told : (holds : Bool) → order_told Slt (signed_ends_of s) (signed_ends_of t) ≡ Some holds → bvslt (tree_value input s) (tree_value input t) ≡ bit holds
    slt_told holds is =
        let a = signed_of s p in
        let b = second_order in
        let v = in_range inputs input bytes s p in
        let u : IsOfWidth (tree_width s) (tree_value input t) = rw wide (in_range inputs input bytes t q) in
        slt_is (tree_width s) (tree_value input s) (tree_value input t) v.not_empty v.width u.width v.in_range u.in_range
        ∙ ap bit (order_tells _ _ _ _ _ _ holds a.least a.greatest b.least b.greatest
        (rw (
          less_is (signed_ends_of s).greatest (signed_ends_of t).least a.ends.greatest b.ends.least a.few b.first,
          less_is (signed_ends_of s).least (signed_ends_of t).greatest a.ends.least b.ends.greatest a.first b.few,
        ) at is))

    apart_told : (are_apart Ult (ends_of s) (ends_of t) || are_apart Slt (signed_ends_of s) (signed_ends_of t)) ≡ true →
        (tree_value input s).number ≡ (tree_value input t).number → ⊥
    apart_told is same =
        let a = lies_of inputs input bytes s p in
        let b = second_lies in
        let c = signed_of s p in
        let d = second_order in
        either_true (are_apart Ult (ends_of s) (ends_of t)) (are_apart Slt (signed_ends_of s) (signed_ends_of t)) ⊥
        (λ (e : are_apart Ult (ends_of s) (ends_of t) ≡ true). apart_tells _ _ _ _ _ _ a.least a.greatest b.least b.greatest
        (rw (below_is (ends_of s).greatest (ends_of t).least, below_is (ends_of t).greatest (ends_of s).least) at e) same)
        (λ (e : are_apart Slt (signed_ends_of s) (signed_ends_of t) ≡ true). apart_tells _ _ _ _ _ _ c.least c.greatest d.least d.greatest
        (rw (
          less_is (signed_ends_of s).greatest (signed_ends_of t).least c.ends.greatest d.ends.least c.few d.first,
          less_is (signed_ends_of t).greatest (signed_ends_of s).least d.ends.greatest c.ends.least d.few c.first,
        ) at e)
        (ap (λ n. cond (nat_le (2 ^ (tree_width s - 1)) n) (n - 2 ^ (tree_width s - 1)) (n + 2 ^ (tree_width s - 1))) same)) is

    equal_told : (holds : Bool) → equality_told s t ≡ Some holds → equal (tree_value input s) (tree_value input t) ≡ bit holds
    unfolding equal
    equal_told holds is =
        let (apart, same) = none_or_false _ holds is in
        ap bit (tests_unequal _ _ (apart_told apart) ∙ same)

  pub told_worth : (op : Comparison) (s t : Tree) (holds : Bool) → IsTerm inputs (Test op s t) → comparison_told op s t ≡ Some holds →
      compare op (tree_value input s) (tree_value input t) ≡ bit holds
  unfolding comparison_told
  told_worth Ult s t holds term is = ult_told s t term.0 term.1 term.2 holds is
  told_worth Slt s t holds term is = slt_told s t term.0 term.1 term.2 holds is
  told_worth Eq s t holds term is = equal_told s t term.0 term.1 term.2 holds is
