-- Tests of signed numbers that fit fewer bits, and bitwise operations of such numbers.
use Rattle.std.proofs.Common.{◌≡◌, ◌==◌, ◌⊎◌, ℕ, ◌+◌, ◌-◌, ◌*◌, ◌/◌, ◌%◌, ◌^◌, ◌<◌, ◌≤◌, refl, ap, sym, ◌∙◌, arith, bit_and, bit_or, bit_xor, inl, inr}
use Rattle.std.specs.Prelude.{nat_lt}
use Rattle.std.specs.Int.Bits.{and_self, and_zero_l, and_zero_r, or_self, or_zero_l, or_zero_r, xor_self, xor_zero_l, xor_zero_r}
use Rattle.std.proofs.Math.Nat.{div-add-mod, div-eq_of_lt, mul_comm}
use Rattle.std.proofs.lemmas.Nat.{and_le_l, and_shr, div-mul-add, mod_below, or_lt, or_shr, pow-add, pow_pos, xor_lt, xor_shr}
use Rattle.bv_dag.specs.BitVectors.{BitVector, bit, bvand, bvor, bvslt, bvult, bvxor, equal, extract, is_negative}
use Rattle.bv_dag.proofs.Numbers.{wider}
use Rattle.term_trees.specs.Trees.{IsOfWidth}
use Rattle.term_simplify.proofs.SignedRange.{IsWithin, lowest_or_highest, same_rest, two_halves, within_highest, within_lowest}
use Rattle.term_simplify.proofs.TestRules.{not_negative}
use Rattle.term_simplify.proofs.Truncations.{low_is, low_small}
use Rattle.term_simplify.proofs.Uppers.{ones_over}
use Rattle.term_simplify.proofs.Words.{most_false, most_true}

-- ---- a number within n bits is below half of 2 ^ n, or as far below 2 ^ w
-- what is taken off a number in the upper range
low_upper : (w n m : ℕ) → n ≤ w → 2 ^ w - 2 ^ n ≤ m → m < 2 ^ w → m % 2 ^ n ≡ m - (2 ^ w - 2 ^ n)
low_upper w n m fits over small =
    let power : 2 ^ w ≡ 2 ^ (w - n) * 2 ^ n = ap (λ k. 2 ^ k) (omega (arith, fits)) ∙ pow-add 2 (w - n) n in
    same_rest (2 ^ n) m (m - (2 ^ w - 2 ^ n)) 1 (2 ^ (w - n)) (omega (arith, over, small, wider n w fits)) (omega (arith, power, over, wider n w fits))

pub within_cases : (w n : ℕ) (x : BitVector) → 0 < n → n ≤ w → IsOfWidth w x → IsWithin w n x →
    ((x.number < 2 ^ (n - 1)) × (extract (n - 1) 0 x ≡ record { width = n; number = x.number }))
    ⊎ ((2 ^ w - 2 ^ (n - 1) ≤ x.number) × (extract (n - 1) 0 x ≡ record { width = n; number = x.number - (2 ^ w - 2 ^ n) }))
within_cases w n x some fits p within =
    elim (lowest_or_highest w n x some within) [
      | inl h ↦ inl (h, low_small n (n - 1) x h (omega arith) some)
      | inr h ↦ inr (
        omega (arith, h),
        low_is n x some ∙ ap {B = BitVector} (λ m. record { width = n; number = m })
            (low_upper w n x.number fits (omega (arith, h, two_halves n some)) p.in_range),
      )
    ]

-- ---- so the low bits are ordered as the numbers are
-- a low number with its top bit 0 is the number, and one with its top bit 1 is the number less a fixed one
abbrev Stays : (half gap low whole : ℕ) → Type 0
Stays half gap low whole = ((low < half) × (low ≡ whole)) ⊎ ((half ≤ low) × (low + gap ≡ whole))

stays : (w n : ℕ) (x : BitVector) → 0 < n → n ≤ w → IsOfWidth w x → IsWithin w n x →
    Stays (2 ^ (n - 1)) (2 ^ w - 2 ^ n) (extract (n - 1) 0 x).number x.number
stays w n x some fits p within =
    elim (within_cases w n x some fits p within) [
      | inl h ↦ rw h.1 (inl (h.0, refl))
      | inr h ↦ rw h.1 (inr (omega (arith, h.0, two_halves n some, wider n w fits), omega (arith, h.0, two_halves n some)))
    ]

order_stays : (half gap a b c d : ℕ) → Stays half gap a c → Stays half gap b d → nat_lt a b ≡ nat_lt c d
order_stays half gap a b c d s t = grind (arith, s, t)

same_by_order : (a b c d : ℕ) → nat_lt a b ≡ nat_lt c d → nat_lt b a ≡ nat_lt d c → (a == b) ≡ (c == d)
same_by_order a b c d less more = grind (arith, less, more)

-- the top bit of the low bits is the sign
sign_stays : (w n : ℕ) (x : BitVector) → 0 < n → n ≤ w → IsOfWidth w x → IsWithin w n x → is_negative (extract (n - 1) 0 x) ≡ is_negative x
sign_stays w n x some fits p within =
    let half : 2 ^ (n - 1) ≤ 2 ^ (w - 1) = wider (n - 1) (w - 1) (omega (arith, fits)) in
    elim (within_cases w n x some fits p within) [
      | inl h ↦ ap is_negative h.1 ∙ most_false _ _ h.0 ∙ sym (not_negative w x p.width (omega (arith, h.0, half)))
      | inr h ↦
          let own : 2 ^ (x.width - 1) ≡ 2 ^ (w - 1) = ap (λ k. 2 ^ (k - 1)) p.width in
          ap is_negative h.1
          ∙ most_true _ _ (omega (arith, h.0, two_halves n some, wider n w fits))
          ∙ sym (most_true _ _ (omega (arith, h.0, half, own, two_halves w p.not_empty)))
    ]

module _ (w n : ℕ) (x y : BitVector) (some : 0 < n) (fits : n ≤ w) (p : IsOfWidth w x) (q : IsOfWidth w y)
    (within : IsWithin w n x) (within' : IsWithin w n y) where
  same_order : nat_lt (extract (n - 1) 0 x).number (extract (n - 1) 0 y).number ≡ nat_lt x.number y.number
  same_order = order_stays _ _ _ _ _ _ (stays w n x some fits p within) (stays w n y some fits q within')

  turned_order : nat_lt (extract (n - 1) 0 y).number (extract (n - 1) 0 x).number ≡ nat_lt y.number x.number
  turned_order = order_stays _ _ _ _ _ _ (stays w n y some fits q within') (stays w n x some fits p within)

  pub within_ult : bvult (extract (n - 1) 0 x) (extract (n - 1) 0 y) ≡ bvult x y
  unfolding bvult
  within_ult = ap bit same_order

  pub within_slt : bvslt (extract (n - 1) 0 x) (extract (n - 1) 0 y) ≡ bvslt x y
  unfolding bvslt
  within_slt = rw (sign_stays w n x some fits p within, sign_stays w n y some fits q within', same_order) refl

  pub within_equal : equal (extract (n - 1) 0 x) (extract (n - 1) 0 y) ≡ equal x y
  unfolding equal
  within_equal = ap bit (same_by_order _ _ _ _ same_order turned_order)

-- ---- a bitwise operation of numbers within n bits is within them
-- the bits from the sign on are all zeros or all ones
abbrev AllAlike : (bits n : ℕ) → Type 0
AllAlike bits n = (n ≡ 0) ⊎ (n ≡ 2 ^ bits - 1)

uppers_alike : (w n : ℕ) (x : BitVector) → 0 < n → n ≤ w → IsOfWidth w x → IsWithin w n x →
    AllAlike (w - (n - 1)) (x.number / 2 ^ (n - 1))
uppers_alike w n x some fits p within =
    let m = n - 1 in
    let e : 2 ^ w - 2 ^ m ≡ (2 ^ (w - m) - 1) * 2 ^ m = ap (λ k. 2 ^ k - 2 ^ m) (omega (arith, fits)) ∙ ones_over m (w - m) in
    elim (lowest_or_highest w n x some within) [
      | inl h ↦ inl (div-eq_of_lt h)
      | inr h ↦ inr (ap (λ k. k / 2 ^ m) (omega (arith, h, e))
          ∙ div-mul-add (2 ^ (w - m) - 1) (2 ^ m) (x.number - (2 ^ w - 2 ^ m)) (omega (arith, h, p.in_range, wider m w (omega (arith, fits)))))
    ]

alike_within : (w n : ℕ) (x : BitVector) → 0 < n → n ≤ w → x.number < 2 ^ w →
    AllAlike (w - (n - 1)) (x.number / 2 ^ (n - 1)) → IsWithin w n x
alike_within w n x some fits small alike =
    let m = n - 1 in
    let whole : x.number / 2 ^ m * 2 ^ m + x.number % 2 ^ m ≡ x.number =
    ap (λ k. k + x.number % 2 ^ m) (mul_comm (x.number / 2 ^ m) (2 ^ m)) ∙ div-add-mod x.number (2 ^ m) in
    let e : 2 ^ w - 2 ^ m ≡ (2 ^ (w - m) - 1) * 2 ^ m = ap (λ k. 2 ^ k - 2 ^ m) (omega (arith, fits)) ∙ ones_over m (w - m) in
    elim alike [
      | inl h ↦ within_lowest w n x some fits (omega (arith, whole, ap (λ k. k * 2 ^ m) h, mod_below x.number (2 ^ m) (pow_pos m)))
      | inr h ↦ within_highest w n x some fits small (omega (arith, whole, ap (λ k. k * 2 ^ m) h, e))
    ]

module _ (w n : ℕ) (x y : BitVector) (some : 0 < n) (fits : n ≤ w) (p : IsOfWidth w x) (q : IsOfWidth w y)
    (within : IsWithin w n x) (within' : IsWithin w n y) where
  bitwise : (op : ℕ → ℕ → ℕ) (v : BitVector) → v.number < 2 ^ w → v.number / 2 ^ (n - 1) ≡ op (x.number / 2 ^ (n - 1)) (y.number / 2 ^ (n - 1)) →
      AllAlike (w - (n - 1)) (op 0 0) → AllAlike (w - (n - 1)) (op 0 (2 ^ (w - (n - 1)) - 1)) → AllAlike (w - (n - 1)) (op (2 ^ (w - (n - 1)) - 1) 0) →
      AllAlike (w - (n - 1)) (op (2 ^ (w - (n - 1)) - 1) (2 ^ (w - (n - 1)) - 1)) → IsWithin w n v
  bitwise op v small upper zeros zeros_ones ones_zeros ones =
      alike_within w n v some fits small (rw upper (elim (uppers_alike w n x some fits p within) [
        | inl h ↦ elim (uppers_alike w n y some fits q within') [ inl i ↦ rw (h, i) zeros | inr i ↦ rw (h, i) zeros_ones ]
        | inr h ↦ elim (uppers_alike w n y some fits q within') [ inl i ↦ rw (h, i) ones_zeros | inr i ↦ rw (h, i) ones ]
      ]))

  pub within_and : IsWithin w n (bvand x y)
  unfolding bvand
  within_and =
      bitwise bit_and (bvand x y) (omega (arith, and_le_l x.number y.number, p.in_range)) (and_shr x.number y.number (n - 1))
      (inl (and_zero_l 0)) (inl (and_zero_l (2 ^ (w - (n - 1)) - 1))) (inl (and_zero_r _)) (inr (and_self (2 ^ (w - (n - 1)) - 1)))

  pub within_or : IsWithin w n (bvor x y)
  unfolding bvor
  within_or =
      bitwise bit_or (bvor x y) (or_lt w x.number y.number p.in_range q.in_range) (or_shr x.number y.number (n - 1))
      (inl (or_zero_l 0)) (inr (or_zero_l _)) (inr (or_zero_r _)) (inr (or_self (2 ^ (w - (n - 1)) - 1)))

  pub within_xor : IsWithin w n (bvxor x y)
  unfolding bvxor
  within_xor =
      bitwise bit_xor (bvxor x y) (xor_lt w x.number y.number p.in_range q.in_range) (xor_shr x.number y.number (n - 1))
      (inl (xor_zero_l 0)) (inr (xor_zero_l _)) (inr (xor_zero_r _)) (inl (xor_self (2 ^ (w - (n - 1)) - 1)))
