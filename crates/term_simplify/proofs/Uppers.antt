-- The upper bits of a number that is widened.
use Rattle.std.proofs.Common.{◌≡◌, ◌∙◌, ℕ, ◌+◌, ◌-◌, ◌*◌, ◌/◌, ◌%◌, ◌^◌, ◌<◌, ◌≤◌, true, false, cond, refl, ap, sym, arith, inl, inr}
use Rattle.std.specs.Prelude.{nat_le}
use Rattle.std.proofs.Math.Nat.{add-mul-div_right, div-eq_of_lt, mod-eq_of_lt, mul_assoc, mul_comm, zero-mod}
use Rattle.std.proofs.lemmas.Nat.{div-mul-add, le-div, mod-mul-add, pow-add, pow_pos, shr-shr, shr_below}
use Rattle.bv_dag.specs.BitVectors.{BitVector, extract, is_negative, sign_extend, zero_extend}
use Rattle.bv_dag.proofs.Numbers.{wider}
use Rattle.term_trees.specs.Trees.{IsOfWidth}
use Rattle.term_simplify.proofs.Words.{by_parts, is_at_most, le_tells, most_false, most_true, not_at_most}

same_parts : (x y : BitVector) → x.width ≡ y.width → x.number ≡ y.number → x ≡ y
same_parts x y e f = by_parts y.width y.number x e f

-- ---- ones above a number
take_one : (k m : ℕ) → (k + 1) * m - m ≡ k * m
take_one k m = omega arith

less_one : (a b : ℕ) → 0 < b → a * b - a ≡ (b - 1) * a
less_one a b h =
    let e : b ≡ (b - 1) + 1 = omega arith in
    ap (λ k. k - a) (mul_comm a b) ∙ ap (λ k. k * a - a) e ∙ take_one (b - 1) a

pub ones_over : (w by : ℕ) → 2 ^ (w + by) - 2 ^ w ≡ (2 ^ by - 1) * 2 ^ w
ones_over w by = ap (λ k. k - 2 ^ w) (pow-add 2 w by) ∙ less_one (2 ^ w) (2 ^ by) (pow_pos by)

pub ones_split : (a b : ℕ) → 2 ^ (a + b) - 1 ≡ (2 ^ a - 1) * 2 ^ b + (2 ^ b - 1)
ones_split a b =
    let e : 2 ^ (b + a) - 2 ^ b ≡ (2 ^ a - 1) * 2 ^ b = ones_over b a in
    let turned : 2 ^ (b + a) ≡ 2 ^ (a + b) = ap (λ k. 2 ^ k) (omega arith) in
    omega (arith, e, turned, wider b (b + a) (omega arith), pow_pos b)

ones_upper : (a b : ℕ) → (2 ^ (a + b) - 1) / 2 ^ b ≡ 2 ^ a - 1
ones_upper a b = ap (λ n. n / 2 ^ b) (ones_split a b) ∙ div-mul-add (2 ^ a - 1) (2 ^ b) (2 ^ b - 1) (omega (arith, pow_pos b))

ones_lower : (a b : ℕ) → (2 ^ (a + b) - 1) % 2 ^ b ≡ 2 ^ b - 1
ones_lower a b = ap (λ n. n % 2 ^ b) (ones_split a b) ∙ mod-mul-add (2 ^ a - 1) (2 ^ b) (2 ^ b - 1) (omega (arith, pow_pos b))

-- the upper bits of a number with ones above it
upper_filled : (n c low k : ℕ) → (n + (2 ^ (c + low + k) - 2 ^ (c + low))) / 2 ^ low ≡ n / 2 ^ low + (2 ^ (c + k) - 2 ^ c)
upper_filled n c low k =
    ap (λ m. (n + m) / 2 ^ low) (ones_over (c + low) k ∙ ap (λ m. (2 ^ k - 1) * m) (pow-add 2 c low)
    ∙ sym (mul_assoc (2 ^ k - 1) (2 ^ c) (2 ^ low)))
    ∙ add-mul-div_right n ((2 ^ k - 1) * 2 ^ c) (pow_pos low)
    ∙ ap (λ m. n / 2 ^ low + m) (sym (ones_over c k))

-- the top bit stays on top
pub sign_up : (h low n : ℕ) → nat_le (2 ^ h) (n / 2 ^ low) ≡ nat_le (2 ^ (h + low)) n
sign_up h low n =
    elim (le_tells (2 ^ (h + low)) n) [
      | inl over ↦ most_true _ _ (le-div (2 ^ h) n (2 ^ low) (pow_pos low) (omega (arith, pow-add 2 h low, over.1))) ∙ sym over.0
      | inr under ↦ most_false _ _ (shr_below n h low under.1) ∙ sym under.0
    ]

module _ (w low : ℕ) (v : BitVector) (p : IsOfWidth w v) (within : low < w) where
  upper_small : v.number / 2 ^ low < 2 ^ (w - 1 - low + 1)
  upper_small =
      let e : 2 ^ w ≡ 2 ^ ((w - 1 - low + 1) + low) = ap (λ j. 2 ^ j) (omega (arith, within)) in
      shr_below v.number (w - 1 - low + 1) low (omega (arith, p.in_range, e))

  upper_number : v.number / 2 ^ low % 2 ^ (w - 1 - low + 1) ≡ v.number / 2 ^ low
  upper_number = mod-eq_of_lt upper_small

  upper_sign : nat_le (2 ^ (w - 1 - low + 1 - 1)) (v.number / 2 ^ low % 2 ^ (w - 1 - low + 1)) ≡ is_negative v
  upper_sign =
      ap (nat_le (2 ^ (w - 1 - low + 1 - 1))) upper_number ∙ sign_up (w - 1 - low + 1 - 1) low v.number
      ∙ ap (λ j. nat_le (2 ^ j) v.number) (omega (arith, p.width, within))

  pub upper_zeros : (k : ℕ) → zero_extend k (extract (w - 1) low v) ≡ extract (w + k - 1) low (zero_extend k v)
  unfolding extract zero_extend
  upper_zeros k =
      let small : v.number / 2 ^ low < 2 ^ (w + k - 1 - low + 1) = omega (arith, upper_small, wider (w - 1 - low + 1) (w + k - 1 - low + 1) (omega (arith, within))) in
      same_parts _ _ (omega (arith, within)) (upper_number ∙ sym (mod-eq_of_lt small))

  filled : (k : ℕ) → v.number / 2 ^ low % 2 ^ (w - 1 - low + 1) + (2 ^ (w - 1 - low + 1 + k) - 2 ^ (w - 1 - low + 1)) ≡
      (v.number + (2 ^ (v.width + k) - 2 ^ v.width)) / 2 ^ low % 2 ^ (w + k - 1 - low + 1)
  filled k =
      let c = w - 1 - low + 1 in
      let e : v.width ≡ c + low = omega (arith, p.width, within) in
      let bits : w + k - 1 - low + 1 ≡ c + k = omega (arith, within) in
      let small : v.number / 2 ^ low + (2 ^ (c + k) - 2 ^ c) < 2 ^ (c + k) = omega (arith, upper_small, wider c (c + k) (omega arith)) in
      ap (λ m. m + (2 ^ (c + k) - 2 ^ c)) upper_number ∙ sym (mod-eq_of_lt small)
      ∙ ap (λ j. (v.number / 2 ^ low + (2 ^ (c + k) - 2 ^ c)) % 2 ^ j) (sym bits)
      ∙ ap (λ m. m % 2 ^ (w + k - 1 - low + 1)) (sym (upper_filled v.number c low k))
      ∙ ap (λ j. (v.number + (2 ^ (j + k) - 2 ^ j)) / 2 ^ low % 2 ^ (w + k - 1 - low + 1)) (sym e)

  pub upper_signs : (k : ℕ) → sign_extend k (extract (w - 1) low v) ≡ extract (w + k - 1) low (sign_extend k v)
  unfolding extract sign_extend
  upper_signs k =
      let small : v.number / 2 ^ low < 2 ^ (w + k - 1 - low + 1) = omega (arith, upper_small, wider (w - 1 - low + 1) (w + k - 1 - low + 1) (omega (arith, within))) in
      elim (is_negative v) as (λ b. is_negative v ≡ b → sign_extend k (extract (w - 1) low v) ≡
      extract (w + k - 1) low (record { width = v.width + k; number = cond b (v.number + (2 ^ (v.width + k) - 2 ^ v.width)) v.number })) [
        | true ↦ λ h. rw (upper_sign ∙ h) (same_parts _ _ (omega (arith, within)) (filled k))
        | false ↦ λ h. rw (upper_sign ∙ h) (same_parts _ _ (omega (arith, within)) (upper_number ∙ sym (mod-eq_of_lt small)))
      ] refl

-- ---- bits above a number that is widened by its sign
nothing_first : (n : ℕ) → 0 + n ≡ n
nothing_first n = omega arith

above_filled : (w by j n : ℕ) → n < 2 ^ w → j ≤ by → (n + (2 ^ (w + by) - 2 ^ w)) / 2 ^ (w + j) ≡ 2 ^ (by - j) - 1
above_filled w by j n small h =
    let e : by ≡ (by - j) + j = omega (arith, h) in
    sym (shr-shr (n + (2 ^ (w + by) - 2 ^ w)) w j)
    ∙ ap (λ m. (n + m) / 2 ^ w / 2 ^ j) (ones_over w by)
    ∙ ap (λ m. m / 2 ^ j) (add-mul-div_right n (2 ^ by - 1) (pow_pos w) ∙ ap (λ m. m + (2 ^ by - 1)) (div-eq_of_lt small) ∙ nothing_first (2 ^ by - 1))
    ∙ ap (λ k. (2 ^ k - 1) / 2 ^ j) e ∙ ones_upper (by - j) j

-- the top bit of a number
top_one : (w n : ℕ) → 0 < w → 2 ^ (w - 1) ≤ n → n < 2 ^ w → n / 2 ^ (w - 1) ≡ 1
top_one w n some over under_it =
    let twice : 2 ^ w ≡ 2 * 2 ^ (w - 1) = ap (λ k. 2 ^ k) (omega arith) ∙ pow-add 2 1 (w - 1) in
    ap (λ m. m / 2 ^ (w - 1)) (omega (arith, over)) ∙ div-mul-add 1 (2 ^ (w - 1)) (n - 2 ^ (w - 1)) (omega (arith, twice, over, under_it))

module _ (w by high low : ℕ) (v : BitVector) (p : IsOfWidth w v) (order : low ≤ high) (over : w ≤ low) (within : high < w + by) where
  ones_there : is_negative v ≡ true → v.number / 2 ^ (w - 1) % 2 ^ (w - 1 - (w - 1) + 1) + (2 ^ (w - 1 - (w - 1) + 1 + (high - low)) - 2 ^ (w - 1 - (w - 1) + 1)) ≡
      (v.number + (2 ^ (v.width + by) - 2 ^ v.width)) / 2 ^ low % 2 ^ (high - low + 1)
  ones_there h =
      let one : w - 1 - (w - 1) + 1 ≡ 1 = omega arith in
      let half : 2 ^ (w - 1) ≤ v.number = rw (← p.width) (is_at_most _ _ h) in
      let j = low - w in
      let left : by - j ≡ (by - j - (high - low + 1)) + (high - low + 1) = omega (arith, order, over, within) in
      let turned : 2 ^ (1 + (high - low)) ≡ 2 ^ (high - low + 1) = ap (λ k. 2 ^ k) (omega arith) in
      ap (λ k. v.number / 2 ^ (w - 1) % 2 ^ k + (2 ^ (k + (high - low)) - 2 ^ k)) one
      ∙ ap (λ m. m % 2 ^ 1 + (2 ^ (1 + (high - low)) - 2 ^ 1)) (top_one w v.number p.not_empty half p.in_range)
      ∙ omega (arith, turned, wider 1 (high - low + 1) (omega arith))
      ∙ sym (ap (λ k. (2 ^ k - 1) % 2 ^ (high - low + 1)) left ∙ ones_lower (by - j - (high - low + 1)) (high - low + 1))
      ∙ ap (λ m. m % 2 ^ (high - low + 1)) (sym (above_filled w by j v.number p.in_range (omega (arith, order, over, within))))
      ∙ ap (λ k. (v.number + (2 ^ (w + by) - 2 ^ w)) / 2 ^ k % 2 ^ (high - low + 1)) (omega (arith, over))
      ∙ ap (λ k. (v.number + (2 ^ (k + by) - 2 ^ k)) / 2 ^ low % 2 ^ (high - low + 1)) (sym p.width)

  zeros_there : is_negative v ≡ false → v.number / 2 ^ (w - 1) % 2 ^ (w - 1 - (w - 1) + 1) ≡ v.number / 2 ^ low % 2 ^ (high - low + 1)
  zeros_there h =
      let less : v.number < 2 ^ (w - 1) = rw (← p.width) (not_at_most _ _ h) in
      let small : v.number < 2 ^ low = omega (arith, less, wider (w - 1) low (omega (arith, over))) in
      ap (λ m. m % 2 ^ (w - 1 - (w - 1) + 1)) (div-eq_of_lt less) ∙ zero-mod (2 ^ (w - 1 - (w - 1) + 1))
      ∙ sym (ap (λ m. m % 2 ^ (high - low + 1)) (div-eq_of_lt small) ∙ zero-mod (2 ^ (high - low + 1)))

  pub above_signs : sign_extend (high - low) (extract (w - 1) (w - 1) v) ≡ extract high low (sign_extend by v)
  unfolding extract sign_extend
  above_signs =
      let sign = upper_sign w (w - 1) v p (omega (arith, p.not_empty)) in
      elim (is_negative v) as (λ b. is_negative v ≡ b → sign_extend (high - low) (extract (w - 1) (w - 1) v) ≡
      extract high low (record { width = v.width + by; number = cond b (v.number + (2 ^ (v.width + by) - 2 ^ v.width)) v.number })) [
        | true ↦ λ h. rw (sign ∙ h) (same_parts _ _ (omega arith) (ones_there h))
        | false ↦ λ h. rw (sign ∙ h) (same_parts _ _ (omega arith) (zeros_there h))
      ] refl
