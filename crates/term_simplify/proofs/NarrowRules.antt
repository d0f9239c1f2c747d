-- What is made of low bits, and widened, is worth what the operation is.
use Rattle.std.proofs.Common.{◌≡◌, ◌⊎◌, ◌∙◌, ℕ, ◌+◌, ◌-◌, ◌^◌, ◌<◌, ◌≤◌, true, false, Some, None, ap, sym, refl, arith, inl, inr, max, min}
use Rattle.std.specs.Prelude.{if◌then◌else◌, nat_lt}
use Rattle.std.proofs.lemmas.Bool.Decides.{eqb_tells}
use Rattle.std.proofs.Math.Nat.{le-max_left, le-max_right, min-eq_left, min-eq_right}
use Rattle.bv_dag.specs.BitVectors.{BitVector, bvneg, bvudiv, equal, extract, ite, sign_extend, zero_extend}
use Rattle.bv_dag.specs.Nodes.{binary, compare}
use Rattle.bv_dag.proofs.Numbers.{wider}
use Rattle.bv_dag.specs.declared.nodes.BinaryOp.{BinaryOp}
use Rattle.bv_dag.specs.declared.nodes.BinaryOp.TheVariants.{Add, Sub, Mul, Udiv, Urem, And, Or, Xor, Shl, Lshr, Ashr}
use Rattle.bv_dag.specs.declared.nodes.Comparison.{Comparison}
use Rattle.bv_dag.specs.declared.nodes.Comparison.TheVariants.{Ult, Slt, Eq}
use Rattle.term_trees.specs.Trees.{IsOfWidth}
use Rattle.term_simplify.specs.Narrowing.{IsFewer, narrowest, signed_result, unsigned_result}
use Rattle.term_simplify.specs.Simplified.{comparison_by_low}
use Rattle.term_simplify.specs.Steps.{low_word, or_ones_word_at, widened_word}
use Rattle.term_simplify.specs.declared.narrowing.Narrow.{Narrow}
use Rattle.term_simplify.specs.declared.narrowing.Reach.{Reach}
use Rattle.term_simplify.proofs.NarrowRanges.{IsReach}
use Rattle.term_simplify.proofs.SignedFits.{within_add, within_ite, within_mul, within_neg, within_neg_unsigned, within_sub, within_sub_unsigned}
use Rattle.term_simplify.proofs.SignedRange.{IsWithin, restored, within_wider}
use Rattle.term_simplify.proofs.SignedTests.{within_and, within_equal, within_or, within_slt, within_ult, within_xor}
use Rattle.term_simplify.proofs.Truncations.{low_add, low_and, low_ite, low_mul, low_neg, low_or, low_small, low_sub, low_xor}
use Rattle.term_simplify.proofs.UnsignedNarrowing.{narrow_add, narrow_and_first, narrow_and_second, narrow_equal, narrow_ite, narrow_lshr, narrow_mul, narrow_or, narrow_slt, narrow_udiv, narrow_ult, narrow_urem, narrow_xor}
use Rattle.term_simplify.proofs.Words.{le_tells, lt_tells}

-- a narrowing is one of the two that there are, and of fewer bits than the width
some_is : (k n : Narrow) → Some k ≡ Some n → k ≡ n
some_is k n e = cc

with_sign : (signed width : ℕ) (n : Narrow) → (if nat_lt signed width then Some (record { bits = signed; signed = true }) else None) ≡ Some n →
    (n ≡ record { bits = signed; signed = true }) × (signed < width)
with_sign signed width n e =
    elim (lt_tells signed width) [
      | inl lt ↦ (sym (some_is _ n (rw lt.0 at e)), lt.1)
      | inr none ↦ let no : None ≡ Some n = rw none.0 at e in cc
    ]

pub narrowest_is : (unsigned signed width : ℕ) (n : Narrow) → narrowest unsigned signed width ≡ Some n →
    ((n ≡ record { bits = unsigned; signed = false }) × (unsigned < width)) ⊎ ((n ≡ record { bits = signed; signed = true }) × (signed < width))
narrowest_is unsigned signed width n e =
    elim (le_tells unsigned signed) [
      | inl le ↦ elim (lt_tells unsigned width) [
        | inl lt ↦ inl (sym (some_is _ n (rw (le.0, lt.0) at e)), lt.1)
        | inr more ↦ inr (with_sign signed width n (rw (le.0, more.0) at e))
      ]
      | inr more ↦ inr (with_sign signed width n (rw more.0 at e))
    ]

-- of so many bits, it is worth this
pub record IsMadeOf (width : ℕ) (n : Narrow) (made whole : BitVector) : Type 0 where
  pub fewer : IsFewer n width
  pub worth : made ≡ whole

-- ---- two bit-vectors of w bits, of which these low bits tell all
module _ (w : ℕ) (a b : Reach) (x y : BitVector) (p : IsOfWidth w x) (q : IsOfWidth w y) (first : IsReach w a x) (second : IsReach w b y) where
  abbrev pub most : ℕ
  most = max a.unsigned b.unsigned

  some : 0 < most
  some = omega (arith, first.some, le-max_left a.unsigned b.unsigned)

  -- without sign; a quotient's are told where the divisor isn't 0
  unsigned_binary : (op : BinaryOp) → unsigned_result op a b < w →
      (0 < unsigned_result op a b) ×
      ((op ≡ Udiv → 0 < y.number) →
      zero_extend (w - unsigned_result op a b) (binary op (extract (unsigned_result op a b - 1) 0 x) (extract (unsigned_result op a b - 1) 0 y)) ≡ binary op x y)
  unsigned_binary Add less = (
    omega arith,
    λ divides. narrow_add w (most + 1) a.unsigned b.unsigned x y p.width (omega arith) less first.few second.few
        (omega (arith, le-max_left a.unsigned b.unsigned)) (omega (arith, le-max_right a.unsigned b.unsigned)),
  )
  unsigned_binary Mul less = (
    omega (arith, first.some),
    λ divides. narrow_mul w (a.unsigned + b.unsigned) a.unsigned b.unsigned x y p.width (omega (arith, first.some)) less first.few second.few (omega arith),
  )
  unsigned_binary And less =
      elim (le_tells a.unsigned b.unsigned) [
        | inl le ↦
            let e : min a.unsigned b.unsigned ≡ a.unsigned = min-eq_left le.1 in
            rw e (first.some, λ divides. narrow_and_first w a.unsigned a.unsigned x y p.width first.some (omega (arith, less, e)) first.few (omega arith))
        | inr more ↦
            let e : min a.unsigned b.unsigned ≡ b.unsigned = min-eq_right (omega (arith, more.1)) in
            rw e (second.some, λ divides. narrow_and_second w b.unsigned b.unsigned x y p.width second.some (omega (arith, less, e)) second.few (omega arith))
      ]
  unsigned_binary Or less =
      (some, λ divides. narrow_or w most a.unsigned b.unsigned x y p.width some less first.few second.few (le-max_left a.unsigned b.unsigned) (le-max_right a.unsigned b.unsigned))
  unsigned_binary Xor less =
      (some, λ divides. narrow_xor w most a.unsigned b.unsigned x y p.width some less first.few second.few (le-max_left a.unsigned b.unsigned) (le-max_right a.unsigned b.unsigned))
  unsigned_binary Lshr less =
      (some, λ divides. narrow_lshr w most a.unsigned b.unsigned x y p.width some less first.few second.few (le-max_left a.unsigned b.unsigned) (le-max_right a.unsigned b.unsigned))
  unsigned_binary Urem less =
      (some, λ divides. narrow_urem w most a.unsigned b.unsigned x y p.width some less first.few second.few (le-max_left a.unsigned b.unsigned) (le-max_right a.unsigned b.unsigned))
  unsigned_binary Udiv less = (
    some,
    λ divides. narrow_udiv w most a.unsigned b.unsigned x y p.width some less first.few second.few
        (le-max_left a.unsigned b.unsigned) (le-max_right a.unsigned b.unsigned) (divides refl),
  )
  unsigned_binary Sub less = absurd (omega (arith, less, p.at_most_64))
  unsigned_binary Shl less = absurd (omega (arith, less, p.at_most_64))
  unsigned_binary Ashr less = absurd (omega (arith, less, p.at_most_64))

  -- with sign
  abbrev pub widest : ℕ
  widest = max a.signed b.signed

  some_signed : 0 < widest
  some_signed = omega (arith, first.some_signed, le-max_left a.signed b.signed)

  x_within : (n : ℕ) → widest ≤ n → n ≤ w → IsWithin w n x
  x_within n more fits =
      within_wider w a.signed n x p.in_range (first.within (omega (arith, le-max_left a.signed b.signed, more, fits)))
      first.some_signed (omega (arith, le-max_left a.signed b.signed, more)) fits

  y_within : (n : ℕ) → widest ≤ n → n ≤ w → IsWithin w n y
  y_within n more fits =
      within_wider w b.signed n y q.in_range (second.within (omega (arith, le-max_right a.signed b.signed, more, fits)))
      second.some_signed (omega (arith, le-max_right a.signed b.signed, more)) fits

  -- an operation that low bits tell, and that is within them
  told_by_low : (op : BinaryOp) (n : ℕ) → IsOfWidth w (binary op x y) → 0 < n → n < w → IsWithin w n (binary op x y) →
      extract (n - 1) 0 (binary op x y) ≡ binary op (extract (n - 1) 0 x) (extract (n - 1) 0 y) →
      (0 < n) × (sign_extend (w - n) (binary op (extract (n - 1) 0 x) (extract (n - 1) 0 y)) ≡ binary op x y)
  told_by_low op n r some less within low =
      (some, ap (sign_extend (w - n)) (sym low) ∙ restored w n (binary op x y) r some less within)

  difference_within : min widest most + 1 ≤ w → IsWithin w (min widest most + 1) (binary Sub x y)
  difference_within fits =
      elim (le_tells widest most) [
        | inl le ↦
            let e : min widest most ≡ widest = min-eq_left le.1 in
            let room : widest + 1 ≤ w = omega (arith, fits, e) in
            rw e (within_sub w widest x y p q some_signed (x_within widest (omega arith) (omega (arith, room))) (y_within widest (omega arith) (omega (arith, room))) room)
        | inr more ↦
            let e : min widest most ≡ most = min-eq_right (omega (arith, more.1)) in
            rw e (within_sub_unsigned w most x y p q
            (omega (arith, first.few, wider a.unsigned most (le-max_left a.unsigned b.unsigned)))
            (omega (arith, second.few, wider b.unsigned most (le-max_right a.unsigned b.unsigned))) (omega (arith, fits, e)))
      ]

  signed_binary : (op : BinaryOp) → IsOfWidth w (binary op x y) → signed_result op a b < w →
      (0 < signed_result op a b) ×
      (sign_extend (w - signed_result op a b) (binary op (extract (signed_result op a b - 1) 0 x) (extract (signed_result op a b - 1) 0 y)) ≡ binary op x y)
  signed_binary Add r less =
      told_by_low Add (widest + 1) r (omega arith) less
      (within_add w widest x y p q some_signed (x_within widest (omega arith) (omega (arith, less))) (y_within widest (omega arith) (omega (arith, less))) (omega (arith, less)))
      (low_add w (widest + 1) x y p.width (omega arith) (omega (arith, less)))
  signed_binary Sub r less =
      told_by_low Sub (min widest most + 1) r (omega arith) less (difference_within (omega (arith, less)))
      (low_sub w (min widest most + 1) x y p.width (omega arith) (omega (arith, less)) q)
  signed_binary Mul r less =
      told_by_low Mul (a.signed + b.signed) r (omega (arith, first.some_signed)) less
      (within_mul w a.signed b.signed x y p q first.some_signed second.some_signed (first.within (omega (arith, less))) (second.within (omega (arith, less))) (omega (arith, less)))
      (low_mul w (a.signed + b.signed) x y p.width (omega (arith, first.some_signed)) (omega (arith, less)))
  signed_binary And r less =
      told_by_low And widest r some_signed less
      (within_and w widest x y some_signed (omega (arith, less)) p q (x_within widest (omega arith) (omega (arith, less))) (y_within widest (omega arith) (omega (arith, less))))
      (low_and widest x y some_signed)
  signed_binary Or r less =
      told_by_low Or widest r some_signed less
      (within_or w widest x y some_signed (omega (arith, less)) p q (x_within widest (omega arith) (omega (arith, less))) (y_within widest (omega arith) (omega (arith, less))))
      (low_or widest x y some_signed)
  signed_binary Xor r less =
      told_by_low Xor widest r some_signed less
      (within_xor w widest x y some_signed (omega (arith, less)) p q (x_within widest (omega arith) (omega (arith, less))) (y_within widest (omega arith) (omega (arith, less))))
      (low_xor widest x y some_signed)
  signed_binary Udiv r less = absurd (omega (arith, less, p.at_most_64))
  signed_binary Urem r less = absurd (omega (arith, less, p.at_most_64))
  signed_binary Shl r less = absurd (omega (arith, less, p.at_most_64))
  signed_binary Lshr r less = absurd (omega (arith, less, p.at_most_64))
  signed_binary Ashr r less = absurd (omega (arith, less, p.at_most_64))

  -- ---- an operation of two; a quotient by what isn't 0
  pub binary_of_low : (op : BinaryOp) (n : Narrow) → IsOfWidth w (binary op x y) →
      narrowest (unsigned_result op a b) (signed_result op a b) w ≡ Some n →
      IsFewer n w × ((op ≡ Udiv → 0 < y.number) → widened_word w n (binary op (low_word n x) (low_word n y)) ≡ binary op x y)
  binary_of_low op n r e =
      elim (narrowest_is (unsigned_result op a b) (signed_result op a b) w n e) [
        | inl h ↦
            let made = unsigned_binary op h.1 in
            rw h.0 (record { some = made.0; fewer = h.1 }, made.1)
        | inr h ↦
            let made = signed_binary op r h.1 in
            rw h.0 (record { some = made.0; fewer = h.1 }, λ divides. made.1)
      ]

  -- ---- a quotient, by 0 too
  low_divisor : most < w → extract (most - 1) 0 y ≡ record { width = most; number = y.number }
  low_divisor less = low_small most b.unsigned y second.few (le-max_right a.unsigned b.unsigned) some

  or_ones : (q : BitVector) → (0 < y.number → q ≡ bvudiv x y) →
      ite (equal (record { width = most; number = y.number }) (record { width = most; number = 0 })) (record { width = w; number = 2 ^ w - 1 }) q
      ≡ bvudiv x y
  unfolding bvudiv ite equal
  or_ones q told =
      elim (eqb_tells y.number 0) [
        | inl zero ↦ rw (zero.0, p.width) refl
        | inr other ↦
            rw other.0 (ap {B = BitVector} (λ (v : BitVector). record { width = w; number = v.number }) (told (omega (arith, other.1)))
            ∙ rw (other.0, p.width) refl)
      ]

  pub quotient_of_low : (n : Narrow) → IsOfWidth w (bvudiv x y) → narrowest most 64 w ≡ Some n →
      or_ones_word_at w n (low_word n y) (widened_word w n (bvudiv (low_word n x) (low_word n y))) ≡ bvudiv x y
  quotient_of_low n r e =
      elim (narrowest_is most 64 w n e) [
        | inl h ↦
            rw (h.0, low_divisor h.1)
            (or_ones (zero_extend (w - most) (bvudiv (extract (most - 1) 0 x) (record { width = most; number = y.number })))
            (λ divides. rw (← low_divisor h.1) ((unsigned_binary Udiv h.1).1 (λ k. divides))))
        | inr h ↦ absurd (omega (arith, h.1, p.at_most_64))
      ]

  -- ---- a comparison
  unsigned_test : (op : Comparison) → most < w → compare (comparison_by_low false op) (extract (most - 1) 0 x) (extract (most - 1) 0 y) ≡ compare op x y
  unsigned_test Ult less = narrow_ult w most a.unsigned b.unsigned x y p.width some less first.few second.few (le-max_left a.unsigned b.unsigned) (le-max_right a.unsigned b.unsigned)
  unsigned_test Slt less = narrow_slt w most a.unsigned b.unsigned x y p.width some less first.few second.few q.width (le-max_left a.unsigned b.unsigned) (le-max_right a.unsigned b.unsigned)
  unsigned_test Eq less = narrow_equal w most a.unsigned b.unsigned x y p.width some less first.few second.few (le-max_left a.unsigned b.unsigned) (le-max_right a.unsigned b.unsigned)

  signed_test : (op : Comparison) → widest < w → compare op (extract (widest - 1) 0 x) (extract (widest - 1) 0 y) ≡ compare op x y
  signed_test Ult less = within_ult w widest x y some_signed (omega (arith, less)) p q (x_within widest (omega arith) (omega (arith, less))) (y_within widest (omega arith) (omega (arith, less)))
  signed_test Slt less = within_slt w widest x y some_signed (omega (arith, less)) p q (x_within widest (omega arith) (omega (arith, less))) (y_within widest (omega arith) (omega (arith, less)))
  signed_test Eq less = within_equal w widest x y some_signed (omega (arith, less)) p q (x_within widest (omega arith) (omega (arith, less))) (y_within widest (omega arith) (omega (arith, less)))

  as_signed : (op : Comparison) → comparison_by_low true op ≡ op
  as_signed Ult = refl
  as_signed Slt = refl
  as_signed Eq = refl

  pub test_of_low : (op : Comparison) (n : Narrow) → narrowest most widest w ≡ Some n →
      IsMadeOf w n (compare (comparison_by_low n.signed op) (low_word n x) (low_word n y)) (compare op x y)
  test_of_low op n e =
      elim (narrowest_is most widest w n e) [
        | inl h ↦ rw h.0 (record { fewer = record { some = some; fewer = h.1 }; worth = unsigned_test op h.1 })
        | inr h ↦ rw h.0 (record {
          fewer = record { some = some_signed; fewer = h.1 };
          worth = ap (λ (k : Comparison). compare k (extract (widest - 1) 0 x) (extract (widest - 1) 0 y)) (as_signed op) ∙ signed_test op h.1;
        })
      ]

  -- ---- a choice
  pub choice_of_low : (c : BitVector) (n : Narrow) → IsOfWidth w (ite c x y) → narrowest most widest w ≡ Some n →
      IsMadeOf w n (widened_word w n (ite c (low_word n x) (low_word n y))) (ite c x y)
  choice_of_low c n r e =
      elim (narrowest_is most widest w n e) [
        | inl h ↦ rw h.0 (record {
          fewer = record { some = some; fewer = h.1 };
          worth = narrow_ite w most a.unsigned b.unsigned x y p.width some h.1 first.few second.few c (le-max_left a.unsigned b.unsigned) (le-max_right a.unsigned b.unsigned);
        })
        | inr h ↦
            let fits : widest ≤ w = omega (arith, h.1) in
            rw h.0 (record {
              fewer = record { some = some_signed; fewer = h.1 };
              worth = ap (sign_extend (w - widest)) (sym (low_ite widest x y some_signed c))
                  ∙ restored w widest (ite c x y) r some_signed h.1
                  (within_ite w widest c x y (x_within widest (omega arith) fits) (y_within widest (omega arith) fits));
            })
      ]

-- ---- a negative
negative_within : (w : ℕ) (a : Reach) (x : BitVector) → IsOfWidth w x → IsReach w a x → min a.unsigned a.signed + 1 ≤ w →
    IsWithin w (min a.unsigned a.signed + 1) (bvneg x)
negative_within w a x p reach fits =
    elim (le_tells a.unsigned a.signed) [
      | inl le ↦ let e : min a.unsigned a.signed ≡ a.unsigned = min-eq_left le.1 in rw e (within_neg_unsigned w a.unsigned x p reach.few (omega (arith, fits, e)))
      | inr more ↦
          let e : min a.unsigned a.signed ≡ a.signed = min-eq_right (omega (arith, more.1)) in
          let room : a.signed + 1 ≤ w = omega (arith, fits, e) in
          rw e (within_neg w a.signed x p reach.some_signed (reach.within (omega (arith, room))) room)
    ]

pub negative_of_low : (w : ℕ) (a : Reach) (x : BitVector) (n : Narrow) → IsOfWidth w x → IsOfWidth w (bvneg x) → IsReach w a x →
    narrowest 64 (min a.unsigned a.signed + 1) w ≡ Some n →
    IsMadeOf w n (widened_word w n (bvneg (low_word n x))) (bvneg x)
negative_of_low w a x n p r reach e =
    elim (narrowest_is 64 (min a.unsigned a.signed + 1) w n e) [
      | inl h ↦ absurd (omega (arith, h.1, p.at_most_64))
      | inr h ↦
          let k = min a.unsigned a.signed + 1 in
          rw h.0 (record {
            fewer = record { some = omega arith; fewer = h.1 };
            worth = ap (sign_extend (w - k)) (sym (low_neg w k x p (omega arith) (omega (arith, h.1))))
                ∙ restored w k (bvneg x) r (omega arith) h.1 (negative_within w a x p reach (omega (arith, h.1)));
          })
    ]
