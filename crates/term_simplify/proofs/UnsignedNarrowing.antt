-- Operations of small numbers, made at fewer bits and widened by zeros.
use Rattle.std.proofs.Common.{◌≡◌, ℕ, ◌+◌, ◌-◌, ◌*◌, ◌/◌, ◌%◌, ◌^◌, ◌<◌, ◌≤◌, true, false, cond, refl, ap, sym, ◌∙◌, arith, bit_and, inl, inr}
use Rattle.std.specs.Prelude.{nat_lt}
use Rattle.std.proofs.Math.Nat.{div-eq_of_lt, mod-eq_of_lt}
use Rattle.std.proofs.lemmas.Nat.{and_comm, and_le_l, and_mod, mul-lt, pow-add}
use Rattle.bv_dag.specs.BitVectors.{BitVector, bvadd, bvand, bvlshr, bvmul, bvor, bvslt, bvudiv, bvult, bvurem, bvxor, equal, extract, ite, zero_extend}
use Rattle.bv_dag.proofs.Numbers.{wider}
use Rattle.term_simplify.proofs.Words.{by_parts, lt_tells, tests_below, tests_unequal}
use Rattle.term_simplify.proofs.TestRules.{not_negative}
use Rattle.term_simplify.proofs.Truncations.{low_is, low_small}

-- a number of n bits, widened to w
widened : (w n m k : ℕ) (x : BitVector) → x.width ≡ w → n ≤ w → m ≡ k →
    zero_extend (w - n) (record { width = n; number = m }) ≡ record { width = x.width; number = k }
unfolding zero_extend
widened w n m k x wide fits e = by_parts x.width k _ (omega (arith, wide, fits)) e

-- a number of n bits is the same modulo a greater power
pub same_cut : (n v m : ℕ) → n ≤ v → m < 2 ^ n → m % 2 ^ n ≡ m % 2 ^ v
same_cut n v m fits small = mod-eq_of_lt small ∙ sym (mod-eq_of_lt (omega (arith, small, wider n v fits)))

pub sum_small : (n a b x y : ℕ) → x < 2 ^ a → y < 2 ^ b → a + 1 ≤ n → b + 1 ≤ n → x + y < 2 ^ n
sum_small n a b x y few few' fits fits' =
    let twice : 2 ^ n ≡ 2 * 2 ^ (n - 1) = ap (λ k. 2 ^ k) (omega (arith, fits)) ∙ pow-add 2 1 (n - 1) in
    omega (arith, twice, few, few', wider a (n - 1) (omega (arith, fits)), wider b (n - 1) (omega (arith, fits')))

product_small : (n a b x y : ℕ) → x < 2 ^ a → y < 2 ^ b → a + b ≤ n → x * y < 2 ^ n
product_small n a b x y few few' fits = omega (arith, mul-lt x y (2 ^ a) (2 ^ b) few few', pow-add 2 a b, wider (a + b) n fits)

-- ---- x has a bits and y has b
module _ (w n a b : ℕ) (x y : BitVector) (wide : x.width ≡ w) (some : 0 < n) (narrow : n < w)
    (few : x.number < 2 ^ a) (few' : y.number < 2 ^ b) where
  at_low : (op : BitVector → BitVector → BitVector) → a ≤ n → b ≤ n →
      op (extract (n - 1) 0 x) (extract (n - 1) 0 y) ≡ op (record { width = n; number = x.number }) (record { width = n; number = y.number })
  at_low op fits fits' =
      ap (λ v. op v (extract (n - 1) 0 y)) (low_small n a x few fits some)
      ∙ ap (op (record { width = n; number = x.number })) (low_small n b y few' fits' some)

  -- what the operation makes of the two numbers at n bits and at w
  by_numbers : (op : BitVector → BitVector → BitVector) (m k : ℕ) → a ≤ n → b ≤ n →
      op (record { width = n; number = x.number }) (record { width = n; number = y.number }) ≡ record { width = n; number = m } → m ≡ k →
      zero_extend (w - n) (op (extract (n - 1) 0 x) (extract (n - 1) 0 y)) ≡ record { width = x.width; number = k }
  by_numbers op m k fits fits' is e =
      ap (zero_extend (w - n)) (at_low op fits fits' ∙ is) ∙ widened w n m k x wide (omega (arith, narrow)) e

  pub narrow_add : a + 1 ≤ n → b + 1 ≤ n → zero_extend (w - n) (bvadd (extract (n - 1) 0 x) (extract (n - 1) 0 y)) ≡ bvadd x y
  unfolding bvadd
  narrow_add fits fits' =
      by_numbers bvadd _ _ (omega (arith, fits)) (omega (arith, fits')) refl
      (same_cut n x.width (x.number + y.number) (omega (arith, wide, narrow)) (sum_small n a b x.number y.number few few' fits fits'))

  pub narrow_mul : a + b ≤ n → zero_extend (w - n) (bvmul (extract (n - 1) 0 x) (extract (n - 1) 0 y)) ≡ bvmul x y
  unfolding bvmul
  narrow_mul fits =
      by_numbers bvmul _ _ (omega (arith, fits)) (omega (arith, fits)) refl
      (same_cut n x.width (x.number * y.number) (omega (arith, wide, narrow)) (product_small n a b x.number y.number few few' fits))

  pub narrow_or : a ≤ n → b ≤ n → zero_extend (w - n) (bvor (extract (n - 1) 0 x) (extract (n - 1) 0 y)) ≡ bvor x y
  unfolding bvor
  narrow_or fits fits' = by_numbers bvor _ _ fits fits' refl refl

  pub narrow_xor : a ≤ n → b ≤ n → zero_extend (w - n) (bvxor (extract (n - 1) 0 x) (extract (n - 1) 0 y)) ≡ bvxor x y
  unfolding bvxor
  narrow_xor fits fits' = by_numbers bvxor _ _ fits fits' refl refl

  pub narrow_urem : a ≤ n → b ≤ n → zero_extend (w - n) (bvurem (extract (n - 1) 0 x) (extract (n - 1) 0 y)) ≡ bvurem x y
  unfolding bvurem
  narrow_urem fits fits' = by_numbers bvurem _ _ fits fits' refl refl

  -- a quotient by 0 is all ones, and of those are more at w bits
  pub narrow_udiv : a ≤ n → b ≤ n → 0 < y.number → zero_extend (w - n) (bvudiv (extract (n - 1) 0 x) (extract (n - 1) 0 y)) ≡ bvudiv x y
  unfolding bvudiv
  narrow_udiv fits fits' divides =
      by_numbers bvudiv _ _ fits fits' refl (rw (tests_unequal y.number 0 (λ e. omega (arith, divides, e))) refl)

  -- a shift by n or more leaves no bit at n bits, and at w bits none of x
  pub narrow_lshr : a ≤ n → b ≤ n → zero_extend (w - n) (bvlshr (extract (n - 1) 0 x) (extract (n - 1) 0 y)) ≡ bvlshr x y
  unfolding bvlshr
  narrow_lshr fits fits' =
      by_numbers bvlshr _ _ fits fits' refl
      (elim (lt_tells y.number n) [
        | inl less ↦ rw (less.0, tests_below y.number x.width (omega (arith, less.1, wide, narrow))) refl
        | inr more ↦
            let none : x.number / 2 ^ y.number ≡ 0 = div-eq_of_lt (omega (arith, few, wider a y.number (omega (arith, fits, more.1)))) in
            ap (λ t. cond t (x.number / 2 ^ y.number) 0) more.0
            ∙ elim (nat_lt y.number x.width) as (λ t. 0 ≡ cond t (x.number / 2 ^ y.number) 0) [ true ↦ sym none | false ↦ refl ]
      ])

  pub narrow_ite : (c : BitVector) → a ≤ n → b ≤ n → zero_extend (w - n) (ite c (extract (n - 1) 0 x) (extract (n - 1) 0 y)) ≡ ite c x y
  unfolding ite
  narrow_ite c fits fits' = by_numbers (ite c) _ _ fits fits' refl refl

  pub narrow_ult : a ≤ n → b ≤ n → bvult (extract (n - 1) 0 x) (extract (n - 1) 0 y) ≡ bvult x y
  unfolding bvult
  narrow_ult = at_low bvult

  pub narrow_equal : a ≤ n → b ≤ n → equal (extract (n - 1) 0 x) (extract (n - 1) 0 y) ≡ equal x y
  unfolding equal
  narrow_equal = at_low equal

  -- neither is negative at w bits
  pub narrow_slt : y.width ≡ w → a ≤ n → b ≤ n → bvult (extract (n - 1) 0 x) (extract (n - 1) 0 y) ≡ bvslt x y
  unfolding bvult bvslt
  narrow_slt wide' fits fits' =
      at_low bvult fits fits'
      ∙ rw (
        not_negative w x wide (omega (arith, few, wider a (w - 1) (omega (arith, fits, narrow)))),
        not_negative w y wide' (omega (arith, few', wider b (w - 1) (omega (arith, fits', narrow)))),
      ) refl

-- ---- a conjunction has no more bits than either operand
and_cut : (n m k : ℕ) → m < 2 ^ n → bit_and m (k % 2 ^ n) ≡ bit_and m k
and_cut n m k small =
    ap (λ j. bit_and j (k % 2 ^ n)) (sym (mod-eq_of_lt small)) ∙ sym (and_mod m k n)
    ∙ mod-eq_of_lt (omega (arith, small, and_le_l m k))

module _ (w n a : ℕ) (x y : BitVector) (wide : x.width ≡ w) (some : 0 < n) (narrow : n < w) where
  pub narrow_and_first : x.number < 2 ^ a → a ≤ n → zero_extend (w - n) (bvand (extract (n - 1) 0 x) (extract (n - 1) 0 y)) ≡ bvand x y
  unfolding bvand
  narrow_and_first few fits =
      rw (low_small n a x few fits some, low_is n y some)
      (widened w n _ _ x wide (omega (arith, narrow)) (and_cut n x.number y.number (omega (arith, few, wider a n fits))))

  pub narrow_and_second : y.number < 2 ^ a → a ≤ n → zero_extend (w - n) (bvand (extract (n - 1) 0 x) (extract (n - 1) 0 y)) ≡ bvand x y
  unfolding bvand
  narrow_and_second few fits =
      rw (low_is n x some, low_small n a y few fits some)
      (widened w n _ _ x wide (omega (arith, narrow))
      (and_comm (x.number % 2 ^ n) y.number ∙ and_cut n y.number x.number (omega (arith, few, wider a n fits)) ∙ and_comm y.number x.number))
