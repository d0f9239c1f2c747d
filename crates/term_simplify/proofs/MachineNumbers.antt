-- What the terms of the machine's quotients, remainders and products are worth, as numbers.
use Rattle.std.proofs.Common.{◌≡◌, ◌==◌, ℕ, ◌-◌, ◌*◌, ◌/◌, ◌%◌, ◌^◌, ◌<◌, Bool, true, false, cond, refl, ap, sym, ◌∙◌, arith, inl, inr}
use Rattle.std.specs.Prelude.{nat_le}
use Rattle.std.proofs.Math.Nat.{mod-eq_of_lt, div-le_self}
use Rattle.std.proofs.lemmas.Bool.Decides.{eqb_tells}
use Rattle.std.proofs.lemmas.Grind.{common_steps}
use Rattle.bv_dag.specs.BitVectors.{BitVector, bit, bvneg, bvxor, bvmul, bvudiv, bvurem, equal, ite, extract, zero_extend, sign_extend}
use Rattle.rv_decode.specs.declared.ops.RegisterOp.TheVariants.{Div, Rem, Mulh, Mulhsu, Mulhu}
use Rattle.rv_spec.specs.Arithmetic.{combined, is_negative_word, magnitude, with_sign, differ, quotient_signed, remainder_signed, wide_signed, upper_half}
use Rattle.term_trees.specs.Trees.{IsOfWidth}
use Rattle.term_simplify.specs.Steps.{sign_word, signed_word, magnitude_word, signed_quotient_word, or_ones_word, remainder_word, upper_word}
use Rattle.term_simplify.proofs.Words.{tests_unequal, le_tells}

abbrev pub word32 : ℕ → BitVector
word32 n = record { width = 32; number = n }

-- ---- signs and magnitudes
top_bit : (n : ℕ) → n < 2 ^ 32 → n / 2 ^ 31 % 2 ≡ cond (nat_le (2 ^ 31) n) 1 0
top_bit n h = elim (le_tells (2 ^ 31) n) [ inl p ↦ rw p.0 (omega (arith, p.1, h)) | inr p ↦ rw p.0 (omega (arith, p.1)) ]

sign_is : (s : BitVector) → IsOfWidth 32 s → sign_word s ≡ bit (is_negative_word s.number)
unfolding extract is_negative_word
sign_is s p = ap {B = BitVector} (λ n. record { width = 1; number = n }) (top_bit s.number p.in_range)

signed_is : (b : Bool) (s : BitVector) → s.width ≡ 32 →
    signed_word (bit b) s ≡ record { width = 32; number = cond b ((2 ^ 32 - s.number) % 2 ^ 32) s.number }
unfolding ite bvneg
signed_is true s e = rw e refl
signed_is false s e = rw e refl

magnitude_cut : (n : ℕ) → n < 2 ^ 32 → cond (is_negative_word n) ((2 ^ 32 - n) % 2 ^ 32) n ≡ magnitude n
unfolding is_negative_word magnitude
magnitude_cut n h =
    elim (le_tells (2 ^ 31) n) [
      | inl p ↦ rw p.0 (omega (arith, p.1, h))
      | inr p ↦ rw p.0 refl
    ]

magnitude_is : (s : BitVector) → IsOfWidth 32 s →
    magnitude_word s ≡ record { width = 32; number = magnitude s.number }
magnitude_is s p =
    ap (λ b. signed_word b s) (sign_is s p) ∙ signed_is (is_negative_word s.number) s p.width
    ∙ ap {B = BitVector} (λ n. record { width = 32; number = n }) (magnitude_cut s.number p.in_range)

magnitude_below : (n : ℕ) → n < 2 ^ 32 → magnitude n < 2 ^ 32
unfolding magnitude is_negative_word
magnitude_below n h = elim (le_tells (2 ^ 31) n) [ inl p ↦ rw p.0 (omega (arith, p.1, h)) | inr p ↦ rw p.0 h ]

magnitude_some : (n : ℕ) → n < 2 ^ 32 → (n ≡ 0 → ⊥) → (magnitude n ≡ 0 → ⊥)
unfolding magnitude is_negative_word
magnitude_some n h some =
    elim (le_tells (2 ^ 31) n) as (λ _. magnitude n ≡ 0 → ⊥)
    [ inl p ↦ rw p.0 (λ e. omega (arith, p.1, h, e)) | inr p ↦ rw p.0 some ]

magnitude_none : (n : ℕ) → n ≡ 0 → magnitude n ≡ 0
unfolding magnitude is_negative_word
magnitude_none n e = rw e refl

differ_is : (a b : Bool) → bvxor (bit a) (bit b) ≡ bit (differ a b)
unfolding bvxor
differ_is true true = refl
differ_is true false = refl
differ_is false true = refl
differ_is false false = refl

-- a number with a sign
signed_small : (b : Bool) (n : ℕ) → n < 2 ^ 32 → cond b ((2 ^ 32 - n) % 2 ^ 32) n ≡ with_sign b n
unfolding with_sign
signed_small true n h = refl
signed_small false n h = sym (mod-eq_of_lt h)

-- ---- DIV
quotient_small : (n d b : ℕ) → n < b → 0 < d → n / d < b
quotient_small n d b h some = grind (arith, common_steps, div-le_self)

udiv_apart : (x y : ℕ) → (y ≡ 0 → ⊥) → bvudiv (word32 x) (word32 y) ≡ word32 (x / y)
unfolding bvudiv
udiv_apart x y some = rw (tests_unequal y 0 some) refl

-- a sign and a number below 2 ^ 32
with_its_sign : (b : Bool) (n : ℕ) → n < 2 ^ 32 →
    signed_word (bit b) (word32 n) ≡ word32 (with_sign b n)
with_its_sign b n h = signed_is b (word32 n) refl ∙ ap word32 (signed_small b n h)

signed_quotient_is : (s t : BitVector) → IsOfWidth 32 s → IsOfWidth 32 t → (t.number ≡ 0 → ⊥) →
    signed_quotient_word s t ≡ word32 (with_sign (differ (is_negative_word s.number)
    (is_negative_word t.number)) (magnitude s.number / magnitude t.number))
signed_quotient_is s t p q some =
    let apart : magnitude t.number ≡ 0 → ⊥ = magnitude_some t.number q.in_range some in
    let small : magnitude s.number / magnitude t.number < 2 ^ 32 = quotient_small (magnitude s.number) (magnitude t.number) (2 ^ 32) (magnitude_below s.number p.in_range) (omega (arith, apart)) in
    ap (λ b. signed_word (bvxor b (sign_word t)) (bvudiv (magnitude_word s) (magnitude_word t))) (sign_is s p)
    ∙ ap (λ b. signed_word (bvxor (bit (is_negative_word s.number)) b) (bvudiv (magnitude_word s) (magnitude_word t))) (sign_is t q)
    ∙ ap (λ b. signed_word b (bvudiv (magnitude_word s) (magnitude_word t)))
    (differ_is (is_negative_word s.number) (is_negative_word t.number))
    ∙ ap (λ x. signed_word (bit (differ (is_negative_word s.number) (is_negative_word t.number)))
    (bvudiv x (magnitude_word t))) (magnitude_is s p)
    ∙ ap (λ y. signed_word (bit (differ (is_negative_word s.number) (is_negative_word t.number)))
    (bvudiv (word32 (magnitude s.number)) y)) (magnitude_is t q)
    ∙ ap (signed_word (bit (differ (is_negative_word s.number) (is_negative_word t.number))))
    (udiv_apart (magnitude s.number) (magnitude t.number) apart)
    ∙ with_its_sign (differ (is_negative_word s.number) (is_negative_word t.number)) (magnitude s.number / magnitude t.number) small

or_ones_by_zero : (t x : BitVector) → (t.number == 0) ≡ true → or_ones_word t x ≡ word32 (2 ^ 32 - 1)
unfolding ite equal
or_ones_by_zero t x e = rw e refl

or_ones_by_some : (t x : BitVector) (n : ℕ) → (t.number == 0) ≡ false → x ≡ word32 n →
    or_ones_word t x ≡ word32 n
unfolding ite equal
or_ones_by_some t x n e f = rw (e, f) refl

pub quotient_number : (s t : BitVector) → IsOfWidth 32 s → IsOfWidth 32 t →
    or_ones_word t (signed_quotient_word s t) ≡ record { width = 32; number = combined Div s.number t.number }
unfolding quotient_signed
quotient_number s t p q =
    elim (eqb_tells t.number 0) [
      | inl e ↦ or_ones_by_zero t (signed_quotient_word s t) e.0 ∙ rw e.0 refl
      | inr e ↦ or_ones_by_some t (signed_quotient_word s t) _ e.0 (signed_quotient_is s t p q e.1) ∙ rw e.0 refl
    ]

-- ---- REM
rest_by_none : (x y : ℕ) → y ≡ 0 → bvurem (word32 x) (word32 y) ≡ word32 x
unfolding bvurem
rest_by_none x y e = rw e refl

rest_by_some : (x y : ℕ) → (y ≡ 0 → ⊥) → bvurem (word32 x) (word32 y) ≡ word32 (x % y)
unfolding bvurem
rest_by_some x y some = rw (tests_unequal y 0 some) refl

-- the magnitude with the sign is the number
back : (n : ℕ) → n < 2 ^ 32 →
    cond (is_negative_word n) ((2 ^ 32 - magnitude n) % 2 ^ 32) (magnitude n) ≡ n
unfolding is_negative_word magnitude
back n h = elim (le_tells (2 ^ 31) n) [ inl p ↦ rw p.0 (omega (arith, p.1, h)) | inr p ↦ rw p.0 refl ]

rest_in_parts : (s t : BitVector) → IsOfWidth 32 s → IsOfWidth 32 t →
    remainder_word s t ≡ signed_word (bit (is_negative_word s.number))
    (bvurem (word32 (magnitude s.number)) (word32 (magnitude t.number)))
rest_in_parts s t p q =
    ap (λ b. signed_word b (bvurem (magnitude_word s) (magnitude_word t))) (sign_is s p)
    ∙ ap (λ x. signed_word (bit (is_negative_word s.number)) (bvurem x (magnitude_word t))) (magnitude_is s p)
    ∙ ap (λ y. signed_word (bit (is_negative_word s.number)) (bvurem (word32 (magnitude s.number)) y)) (magnitude_is t q)

pub remainder_number : (s t : BitVector) → IsOfWidth 32 s → IsOfWidth 32 t →
    remainder_word s t ≡ record { width = 32; number = combined Rem s.number t.number }
unfolding remainder_signed
remainder_number s t p q =
    rest_in_parts s t p q
    ∙ elim (eqb_tells t.number 0) [
      | inl e ↦
          rw e.0 (ap (signed_word (bit (is_negative_word s.number)))
          (rest_by_none (magnitude s.number) (magnitude t.number) (magnitude_none t.number e.1))
          ∙ signed_is (is_negative_word s.number) (word32 (magnitude s.number)) refl ∙ ap word32 (back (s.number) p.in_range))
      | inr e ↦
          let apart : magnitude t.number ≡ 0 → ⊥ = magnitude_some t.number q.in_range e.1 in
          let some : 0 < magnitude t.number = omega (arith, apart) in
          rw e.0 (ap (signed_word (bit (is_negative_word s.number))) (rest_by_some (magnitude s.number) (magnitude t.number) apart)
          ∙ with_its_sign (is_negative_word s.number) (magnitude s.number % magnitude t.number)
          (omega (arith, magnitude_below t.number q.in_range, some)))
    ]

-- ---- MULH, MULHSU, MULHU
wide_is : (s : BitVector) → IsOfWidth 32 s →
    sign_extend 32 s ≡ record { width = 64; number = wide_signed s.number }
unfolding sign_extend wide_signed is_negative_word
wide_is s p = rw p.width refl

zeros_is : (s : BitVector) → IsOfWidth 32 s →
    zero_extend 32 s ≡ record { width = 64; number = s.number }
unfolding zero_extend
zeros_is s p = rw p.width refl

upper_small : (n : ℕ) → n % 2 ^ 64 / 2 ^ 32 % 2 ^ 32 ≡ n % 2 ^ 64 / 2 ^ 32
upper_small n = omega arith

upper_is : (n m : ℕ) →
    extract 63 32 (bvmul (record { width = 64; number = n }) (record { width = 64; number = m })) ≡
    record { width = 32; number = upper_half (n * m) }
unfolding extract bvmul upper_half
upper_is n m = ap {B = BitVector} (λ k. record { width = 32; number = k }) (upper_small (n * m))

pub both_signed_number : (s t : BitVector) → IsOfWidth 32 s → IsOfWidth 32 t →
    upper_word true true s t ≡ record { width = 32; number = combined Mulh s.number t.number }
both_signed_number s t p q = rw (wide_is s p, wide_is t q) (upper_is (wide_signed s.number) (wide_signed t.number))

pub first_signed_number : (s t : BitVector) → IsOfWidth 32 s → IsOfWidth 32 t →
    upper_word true false s t ≡ record { width = 32; number = combined Mulhsu s.number t.number }
first_signed_number s t p q = rw (wide_is s p, zeros_is t q) (upper_is (wide_signed s.number) t.number)

pub unsigned_number : (s t : BitVector) → IsOfWidth 32 s → IsOfWidth 32 t →
    upper_word false false s t ≡ record { width = 32; number = combined Mulhu s.number t.number }
unsigned_number s t p q = rw (zeros_is s p, zeros_is t q) (upper_is s.number t.number)
