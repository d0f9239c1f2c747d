-- A shift by a number below the width is worth the bits that it moves.
use Rattle.std.proofs.Common.{◌≡◌, ◌∙◌, ℕ, ◌+◌, ◌-◌, ◌*◌, ◌/◌, ◌%◌, ◌^◌, ◌<◌, ◌≤◌, true, false, cond, refl, ap, sym, arith, inl, inr}
use Rattle.std.specs.Prelude.{nat_le}
use Rattle.std.proofs.Math.Nat.{add-mul, add-zero, div-add-mod, div-one, mod-eq_of_lt, mul-mod_left, mul_comm, one-mul}
use Rattle.std.proofs.lemmas.Nat.{div-mul-add, le-div, mod-pow-add, mod_below, pow-add, pow_pos, shr_below}
use Rattle.bv_dag.specs.BitVectors.{BitVector, bvashr, bvlshr, bvnot, bvshl, concat, extract, is_negative, sign_extend, zero_extend}
use Rattle.bv_dag.proofs.Numbers.{wider}
use Rattle.term_trees.specs.Trees.{IsOfWidth}
use Rattle.term_simplify.proofs.Words.{by_parts, le_tells, tests_below}

same_parts : (x y : BitVector) → x.width ≡ y.width → x.number ≡ y.number → x ≡ y
same_parts x y e f = by_parts y.width y.number x e f

-- ---- up
times_div : (n k : ℕ) → n * 2 ^ k / 2 ^ k ≡ n
times_div n k = ap (λ m. m / 2 ^ k) (sym (add-zero (n * 2 ^ k))) ∙ div-mul-add n (2 ^ k) 0 (pow_pos k)

up_number : (n w k : ℕ) → k < w → n * 2 ^ k % 2 ^ w ≡ n % 2 ^ (w - k) * 2 ^ k
up_number n w k h =
    let e : w ≡ (w - k) + k = omega (arith, h) in
    ap (λ j. n * 2 ^ k % 2 ^ j) e ∙ mod-pow-add (n * 2 ^ k) (w - k) k
    ∙ ap (λ m. m % 2 ^ (w - k) * 2 ^ k + n * 2 ^ k % 2 ^ k) (times_div n k)
    ∙ ap (λ m. n % 2 ^ (w - k) * 2 ^ k + m) (mul-mod_left n (2 ^ k)) ∙ add-zero (n % 2 ^ (w - k) * 2 ^ k)

pub shl_moves : (w : ℕ) (x y : BitVector) → IsOfWidth w x → IsOfWidth w y → y.number < y.width →
    concat (extract (y.width - 1 - y.number) 0 x) (record { width = y.number; number = 0 }) ≡ bvshl x y
unfolding bvshl concat extract
shl_moves w x y p q within =
    let k = y.number in
    let e : y.width - 1 - k - 0 + 1 ≡ w - k = omega (arith, q.width, within) in
    let few : k < x.width = omega (arith, p.width, q.width, within) in
    same_parts _ _ (omega (arith, p.width, q.width, within))
    (ap (λ n. n % 2 ^ (y.width - 1 - k - 0 + 1) * 2 ^ k + 0) (div-one x.number)
    ∙ ap (λ j. x.number % 2 ^ j * 2 ^ k + 0) e ∙ add-zero (x.number % 2 ^ (w - k) * 2 ^ k)
    ∙ sym (up_number x.number w k (omega (arith, q.width, within)))
    ∙ ap (λ j. x.number * 2 ^ k % 2 ^ j) (sym p.width)
    ∙ ap (λ b. cond b (x.number * 2 ^ k) 0 % 2 ^ x.width) (sym (tests_below k x.width few)))

-- ---- down: the upper bits of a number
module _ (w : ℕ) (x y : BitVector) (p : IsOfWidth w x) (q : IsOfWidth w y) (within : y.number < y.width) where
  upper_width : y.width - 1 - y.number + 1 ≡ w - y.number
  upper_width = omega (arith, q.width, within)

  power : 2 ^ w ≡ 2 ^ (w - y.number) * 2 ^ y.number
  power = ap (λ j. 2 ^ j) (omega (arith, q.width, within)) ∙ pow-add 2 (w - y.number) y.number

  upper_small : x.number / 2 ^ y.number < 2 ^ (w - y.number)
  upper_small =
      let e : 2 ^ w ≡ 2 ^ ((w - y.number) + y.number) = ap (λ j. 2 ^ j) (omega (arith, q.width, within)) in
      shr_below x.number (w - y.number) y.number (omega (arith, p.in_range, e))

  upper_number : x.number / 2 ^ y.number % 2 ^ (y.width - 1 - y.number + 1) ≡ x.number / 2 ^ y.number
  upper_number = ap (λ j. x.number / 2 ^ y.number % 2 ^ j) upper_width ∙ mod-eq_of_lt upper_small

  few : y.number < x.width
  few = omega (arith, p.width, q.width, within)

  pub lshr_moves : zero_extend y.number (extract (y.width - 1) y.number x) ≡ bvlshr x y
  unfolding bvlshr extract zero_extend
  lshr_moves =
      same_parts _ _ (omega (arith, p.width, q.width, within))
      (upper_number ∙ ap (λ b. cond b (x.number / 2 ^ y.number) 0) (sym (tests_below y.number x.width few)))

  -- the sign stays on top
  same_sign : nat_le (2 ^ (y.width - 1 - y.number + 1 - 1)) (x.number / 2 ^ y.number % 2 ^ (y.width - 1 - y.number + 1)) ≡ is_negative x
  same_sign =
      let top : 2 ^ (x.width - 1) ≡ 2 ^ (y.width - 1 - y.number + 1 - 1) * 2 ^ y.number =
      ap (λ j. 2 ^ j) (omega (arith, p.width, q.width, within)) ∙ pow-add 2 (y.width - 1 - y.number + 1 - 1) y.number in
      let top_sum : 2 ^ (x.width - 1) ≡ 2 ^ ((y.width - 1 - y.number + 1 - 1) + y.number) = ap (λ j. 2 ^ j) (omega (arith, p.width, q.width, within)) in
      elim (le_tells (2 ^ (x.width - 1)) x.number) [
        | inl over ↦
            let at_least : 2 ^ (y.width - 1 - y.number + 1 - 1) ≤ x.number / 2 ^ y.number = le-div _ x.number (2 ^ y.number) (pow_pos y.number) (omega (arith, top, over.1)) in
            elim (le_tells (2 ^ (y.width - 1 - y.number + 1 - 1)) (x.number / 2 ^ y.number % 2 ^ (y.width - 1 - y.number + 1))) [
              | inl both ↦ both.0 ∙ sym over.0
              | inr less ↦ absurd (omega (arith, upper_number, at_least, less.1))
            ]
        | inr under ↦
            let below : x.number / 2 ^ y.number < 2 ^ (y.width - 1 - y.number + 1 - 1) = shr_below x.number (y.width - 1 - y.number + 1 - 1) y.number (omega (arith, top_sum, under.1)) in
            elim (le_tells (2 ^ (y.width - 1 - y.number + 1 - 1)) (x.number / 2 ^ y.number % 2 ^ (y.width - 1 - y.number + 1))) [
              | inl more ↦ absurd (omega (arith, upper_number, below, more.1))
              | inr both ↦ both.0 ∙ sym under.0
            ]
      ]

  -- what the complement's upper bits are
  complement_upper : (2 ^ w - 1 - x.number) / 2 ^ y.number ≡ 2 ^ (w - y.number) - 1 - x.number / 2 ^ y.number
  complement_upper =
      let k = y.number in
      let n = x.number in
      let upper = n / 2 ^ k in
      let rest = n % 2 ^ k in
      let b = 2 ^ (w - k) - 1 - upper in
      let small : rest < 2 ^ k = mod_below n (2 ^ k) (pow_pos k) in
      let whole : upper * 2 ^ k + rest ≡ n = ap (λ m. m + rest) (mul_comm upper (2 ^ k)) ∙ div-add-mod n (2 ^ k) in
      let all : 2 ^ (w - k) ≡ (b + 1) + upper = omega (arith, upper_small) in
      let product : 2 ^ (w - k) * 2 ^ k ≡ (b * 2 ^ k + 2 ^ k) + upper * 2 ^ k =
      ap (λ m. m * 2 ^ k) all ∙ add-mul (b + 1) upper (2 ^ k)
      ∙ ap (λ m. m + upper * 2 ^ k) (add-mul b 1 (2 ^ k) ∙ ap (λ m. b * 2 ^ k + m) (one-mul (2 ^ k))) in
      let parts : 2 ^ w - 1 - n ≡ b * 2 ^ k + (2 ^ k - 1 - rest) = omega (arith, power, product, whole, small) in
      ap (λ m. m / 2 ^ k) parts ∙ div-mul-add b (2 ^ k) (2 ^ k - 1 - rest) (omega (arith, small))

  filled : x.number / 2 ^ y.number + (2 ^ w - 2 ^ (w - y.number)) ≡ 2 ^ w - 1 - (2 ^ w - 1 - x.number) / 2 ^ y.number
  filled = omega (arith, complement_upper, upper_small, wider (w - y.number) w (omega arith))

  pub ashr_moves : sign_extend y.number (extract (y.width - 1) y.number x) ≡ bvashr x y
  unfolding bvashr bvlshr bvnot extract sign_extend zero_extend
  ashr_moves =
      let widths : y.width - 1 - y.number + 1 + y.number ≡ x.width = omega (arith, p.width, q.width, within) in
      let sign = same_sign in
      elim (is_negative x) as (λ b. is_negative x ≡ b → sign_extend y.number (extract (y.width - 1) y.number x) ≡ cond b (bvnot (bvlshr (bvnot x) y)) (bvlshr x y)) [
        | true ↦ λ h. rw (sign ∙ h) (same_parts _ _ widths
            (ap (λ m. m + (2 ^ (y.width - 1 - y.number + 1 + y.number) - 2 ^ (y.width - 1 - y.number + 1))) upper_number
            ∙ ap (λ j. x.number / 2 ^ y.number + (2 ^ j - 2 ^ (y.width - 1 - y.number + 1))) (widths ∙ p.width)
            ∙ ap (λ j. x.number / 2 ^ y.number + (2 ^ w - 2 ^ j)) upper_width ∙ filled
            ∙ ap (λ j. 2 ^ j - 1 - (2 ^ j - 1 - x.number) / 2 ^ y.number) (sym p.width)
            ∙ ap (λ b. 2 ^ x.width - 1 - cond b ((2 ^ x.width - 1 - x.number) / 2 ^ y.number) 0) (sym (tests_below y.number x.width few))))
        | false ↦ λ h. rw (sign ∙ h) lshr_moves
      ] refl
