-- How many bits the operations of signed numbers of few bits need; and a number without its sign, widened.
use Rattle.std.proofs.Common.{◌≡◌, ◌==◌, ◌⊎◌, ℕ, ◌+◌, ◌-◌, ◌*◌, ◌/◌, ◌%◌, ◌^◌, ◌<◌, ◌≤◌, true, false, cond, refl, ap, sym, ◌∙◌, arith, inl, inr}
use Rattle.std.proofs.Math.Nat.{mod-eq_of_lt}
use Rattle.std.proofs.lemmas.Nat.{div-add-mod', div-mul-add, mul-le, pow-add, pow_pos}
use Rattle.bv_dag.specs.BitVectors.{BitVector, bit, bvadd, bvmul, bvneg, bvsub, extract, is_negative, ite, sign_extend, zero_extend}
use Rattle.bv_dag.proofs.Numbers.{wider}
use Rattle.term_trees.specs.Trees.{IsOfWidth}
use Rattle.term_simplify.proofs.SignedRange.{IsWithin, by_cut_rest, half_of_next, lowest_or_highest, two_halves}
use Rattle.term_simplify.proofs.Words.{by_parts, le_tells, most_false, most_true}

-- ---- sums and differences: one bit more
pub within_add : (w a : ℕ) (x y : BitVector) → IsOfWidth w x → IsOfWidth w y → 0 < a → IsWithin w a x → IsWithin w a y → a + 1 ≤ w →
    IsWithin w (a + 1) (bvadd x y)
unfolding bvadd
within_add w a x y p q some first second fits =
    let s = x.number + 2 ^ (a - 1) in
    let t = y.number + 2 ^ (a - 1) in
    by_cut_rest w (a + 1) (bvadd x y) (x.number + y.number) (s % 2 ^ w + t % 2 ^ w) 0 (s / 2 ^ w + t / 2 ^ w) fits
    (omega (arith, first, second, two_halves (a + 1) (omega arith), half_of_next a))
    (ap (λ k. (x.number + y.number) % 2 ^ k) p.width)
    (omega (arith, div-add-mod' s (2 ^ w), div-add-mod' t (2 ^ w), two_halves a some, half_of_next a))

difference_is : (w : ℕ) (x y : BitVector) → IsOfWidth w x → IsOfWidth w y → (bvsub x y).number ≡ (x.number + (2 ^ w - y.number)) % 2 ^ w
unfolding bvsub
difference_is w x y p q = rw (p.width, q.width) refl

pub within_sub : (w a : ℕ) (x y : BitVector) → IsOfWidth w x → IsOfWidth w y → 0 < a → IsWithin w a x → IsWithin w a y → a + 1 ≤ w →
    IsWithin w (a + 1) (bvsub x y)
within_sub w a x y p q some first second fits =
    let s = x.number + 2 ^ (a - 1) in
    let t = y.number + 2 ^ (a - 1) in
    by_cut_rest w (a + 1) (bvsub x y) (x.number + (2 ^ w - y.number)) (s % 2 ^ w + 2 ^ a - t % 2 ^ w) (t / 2 ^ w) (s / 2 ^ w + 1) fits
    (omega (arith, first, second, two_halves (a + 1) (omega arith), half_of_next a))
    (difference_is w x y p q)
    (omega (arith, q.in_range, second, div-add-mod' s (2 ^ w), div-add-mod' t (2 ^ w), two_halves a some, half_of_next a))

pub within_sub_unsigned : (w a : ℕ) (x y : BitVector) → IsOfWidth w x → IsOfWidth w y → x.number < 2 ^ a → y.number < 2 ^ a → a + 1 ≤ w →
    IsWithin w (a + 1) (bvsub x y)
within_sub_unsigned w a x y p q first second fits =
    by_cut_rest w (a + 1) (bvsub x y) (x.number + (2 ^ w - y.number)) (x.number + 2 ^ a - y.number) 0 1 fits
    (omega (arith, first, second, two_halves (a + 1) (omega arith), half_of_next a))
    (difference_is w x y p q)
    (omega (arith, q.in_range, second, half_of_next a))

negative_is : (w : ℕ) (x : BitVector) → IsOfWidth w x → (bvneg x).number ≡ (2 ^ w - x.number) % 2 ^ w
unfolding bvneg
negative_is w x p = rw p.width refl

pub within_neg : (w a : ℕ) (x : BitVector) → IsOfWidth w x → 0 < a → IsWithin w a x → a + 1 ≤ w → IsWithin w (a + 1) (bvneg x)
within_neg w a x p some within fits =
    let s = x.number + 2 ^ (a - 1) in
    by_cut_rest w (a + 1) (bvneg x) (2 ^ w - x.number) (2 ^ a + 2 ^ (a - 1) - s % 2 ^ w) (s / 2 ^ w) 1 fits
    (omega (arith, within, two_halves a some, two_halves (a + 1) (omega arith), half_of_next a, pow_pos (a - 1)))
    (negative_is w x p)
    (omega (arith, p.in_range, within, div-add-mod' s (2 ^ w), two_halves a some, half_of_next a))

pub within_neg_unsigned : (w a : ℕ) (x : BitVector) → IsOfWidth w x → x.number < 2 ^ a → a + 1 ≤ w → IsWithin w (a + 1) (bvneg x)
within_neg_unsigned w a x p small fits =
    by_cut_rest w (a + 1) (bvneg x) (2 ^ w - x.number) (2 ^ a - x.number) 0 1 fits
    (omega (arith, two_halves (a + 1) (omega arith), half_of_next a, pow_pos a))
    (negative_is w x p)
    (omega (arith, p.in_range, small, half_of_next a))

pub within_ite : (w n : ℕ) (c x y : BitVector) → IsWithin w n x → IsWithin w n y → IsWithin w n (ite c x y)
unfolding ite
within_ite w n c x y first second =
    elim (c.number == 1) as (λ b. IsWithin w n (record { width = x.width; number = cond b x.number y.number })) [ true ↦ first | false ↦ second ]

-- ---- a product: as many bits as both
-- the magnitude of a number that is within: it is that, or that below 2 ^ w
record IsSigned (w a n m : ℕ) : Type 0 where
  small : m ≤ 2 ^ (a - 1)
  is : (n ≡ m) ⊎ (n + m ≡ 2 ^ w)

magnitude_of : (w a : ℕ) (x : BitVector) → IsOfWidth w x → 0 < a → IsWithin w a x → (m : ℕ) × IsSigned w a x.number m
magnitude_of w a x p some within =
    elim (lowest_or_highest w a x some within) [
      | inl low ↦ (x.number, record { small = omega (arith, low); is = inl refl })
      | inr high ↦ (2 ^ w - x.number, record { small = omega (arith, high); is = inr (omega (arith, p.in_range)) })
    ]

-- the product is that of the magnitudes up to whole multiples of 2 ^ w, or that below one
record IsProduct (w n m : ℕ) : Type 0 where
  above : ℕ
  whole : ℕ
  is : (n + above * 2 ^ w ≡ m + whole * 2 ^ w) ⊎ (n + m ≡ whole * 2 ^ w)

mixed : (w x y a b : ℕ) → x ≡ a → y + b ≡ 2 ^ w → x * y + a * b ≡ a * 2 ^ w
mixed w x y a b e f = omega (arith, ap (λ k. k * y) e, ap (λ k. a * k) f)

product_of : (w x y a b : ℕ) → (x ≡ a) ⊎ (x + a ≡ 2 ^ w) → (y ≡ b) ⊎ (y + b ≡ 2 ^ w) → IsProduct w (x * y) (a * b)
product_of w x y a b (inl e) (inl f) = record { above = 0; whole = 0; is = inl (omega (arith, ap (λ k. k * y) e, ap (λ k. a * k) f)) }
product_of w x y a b (inl e) (inr f) = record { above = 0; whole = a; is = inr (mixed w x y a b e f) }
product_of w x y a b (inr e) (inl f) = record { above = 0; whole = b; is = inr (omega (arith, mixed w y x b a f e)) }
product_of w x y a b (inr e) (inr f) = record { above = a; whole = y; is = inl (omega (arith, ap (λ k. k * y) e, ap (λ k. a * k) f)) }

pub within_mul : (w a b : ℕ) (x y : BitVector) → IsOfWidth w x → IsOfWidth w y → 0 < a → 0 < b → IsWithin w a x → IsWithin w b y → a + b ≤ w →
    IsWithin w (a + b) (bvmul x y)
unfolding bvmul
within_mul w a b x y p q first_some second_some first second fits =
    let s = magnitude_of w a x p first_some first in
    let t = magnitude_of w b y q second_some second in
    let m = s.0 * t.0 in
    let product = product_of w x.number y.number s.0 t.0 s.1.is t.1.is in
    let parts : 2 ^ (a + b - 1) ≡ 2 ^ (a - 1) * 2 ^ b = ap (λ k. 2 ^ k) (omega (arith, first_some)) ∙ pow-add 2 (a - 1) b in
    let most = 2 ^ (a - 1) * 2 ^ (b - 1) in
    let halves : 2 ^ (a - 1) * 2 ^ b ≡ most + most = omega (arith, ap (λ k. 2 ^ (a - 1) * k) (two_halves b second_some)) in
    let small : m ≤ most = mul-le s.0 t.0 (2 ^ (a - 1)) (2 ^ (b - 1)) s.1.small t.1.small in
    let all = two_halves (a + b) (omega (arith, first_some)) in
    let cut : x.number * y.number % 2 ^ x.width ≡ x.number * y.number % 2 ^ w = ap (λ k. x.number * y.number % 2 ^ k) p.width in
    elim product.is [
      | inl e ↦ by_cut_rest w (a + b) (bvmul x y) (x.number * y.number) (m + 2 ^ (a + b - 1)) product.above product.whole fits
          (omega (arith, parts, halves, small, all, pow_pos (a + b - 1))) cut (omega (arith, e))
      | inr e ↦ by_cut_rest w (a + b) (bvmul x y) (x.number * y.number) (2 ^ (a + b - 1) - m) 0 product.whole fits
          (omega (arith, all, pow_pos (a + b - 1))) cut (omega (arith, e, parts, halves, small))
    ]

-- ---- the top bit, and a number without its sign, widened by zeros
quotient_is : (n m q r : ℕ) → n ≡ q * m + r → r < m → n / m ≡ q
quotient_is n m q r e small = ap (λ k. k / m) e ∙ div-mul-add q m r small

top_is : (w : ℕ) (x : BitVector) → 0 < w → x.width ≡ w → x.number < 2 ^ w → extract (w - 1) (w - 1) x ≡ bit (is_negative x)
unfolding extract
top_is w x some width below =
    let one : w - 1 - (w - 1) + 1 ≡ 1 = omega arith in
    let part : (q : ℕ) → x.number / 2 ^ (w - 1) ≡ q → x.number / 2 ^ (w - 1) % 2 ^ (w - 1 - (w - 1) + 1) ≡ q % 2 = λ q e.
    ap (λ k. x.number / 2 ^ (w - 1) % 2 ^ k) one ∙ ap (λ k. k % 2) e in
    rw width (elim (le_tells (2 ^ (w - 1)) x.number) [
      | inl high ↦ rw high.0 (by_parts 1 1 _ one (part 1 (quotient_is x.number (2 ^ (w - 1)) 1 (x.number - 2 ^ (w - 1))
          (omega (arith, high.1)) (omega (arith, below, high.1, two_halves w some)))))
      | inr low ↦ rw low.0 (by_parts 1 0 _ one (part 0 (quotient_is x.number (2 ^ (w - 1)) 0 x.number (omega arith) low.1)))
    ])

module _ (k by : ℕ) (x : BitVector) (p : IsOfWidth k x) where
  more : 2 ^ k ≤ 2 ^ (k + by)
  more = wider k (k + by) (omega arith)

  same_sign : is_negative (sign_extend by x) ≡ is_negative x
  unfolding sign_extend
  same_sign =
      let half : 2 ^ (k - 1) ≤ 2 ^ (k + by - 1) = wider (k - 1) (k + by - 1) (omega arith) in
      rw p.width (elim (le_tells (2 ^ (k - 1)) x.number) [
        | inl high ↦ rw high.0 (most_true _ _ (omega (arith, high.1, half, more, two_halves k p.not_empty, two_halves (k + by) (omega (arith, p.not_empty)))))
        | inr low ↦ rw low.0 (most_false _ _ (omega (arith, low.1, half)))
      ])

  widened_below : (sign_extend by x).number < 2 ^ (k + by)
  unfolding sign_extend
  widened_below =
      rw p.width (elim (le_tells (2 ^ (k - 1)) x.number) [
        | inl high ↦ rw high.0 (omega (arith, p.in_range, more))
        | inr low ↦ rw low.0 (omega (arith, p.in_range, more))
      ])

  widened_width : (sign_extend by x).width ≡ k + by
  unfolding sign_extend
  widened_width = ap (λ j. j + by) p.width

  pub same_top : extract (k + by - 1) (k + by - 1) (sign_extend by x) ≡ extract (k - 1) (k - 1) x
  same_top =
      top_is (k + by) (sign_extend by x) (omega (arith, p.not_empty)) widened_width widened_below
      ∙ ap bit same_sign ∙ sym (top_is k x p.not_empty p.width p.in_range)

  pub magnitude_widened : (s : BitVector) → s ≡ extract (k - 1) (k - 1) x →
      zero_extend by (ite s (bvneg x) x) ≡ ite s (bvneg (sign_extend by x)) (sign_extend by x)
  unfolding bvneg ite sign_extend zero_extend
  magnitude_widened s e =
      rw (e ∙ top_is k x p.not_empty p.width p.in_range, p.width) (elim (le_tells (2 ^ (k - 1)) x.number) [
        | inl high ↦
            let inner : (2 ^ k - x.number) % 2 ^ k ≡ 2 ^ k - x.number = mod-eq_of_lt (omega (arith, high.1, pow_pos (k - 1), pow_pos k)) in
            let outer : (2 ^ (k + by) - (x.number + (2 ^ (k + by) - 2 ^ k))) % 2 ^ (k + by) ≡ 2 ^ k - x.number =
            ap (λ m. m % 2 ^ (k + by)) (omega (arith, more)) ∙ mod-eq_of_lt (omega (arith, high.1, pow_pos (k - 1), more)) in
            rw high.0 (ap {B = BitVector} (λ m. record { width = k + by; number = m }) (inner ∙ sym outer))
        | inr low ↦ rw low.0 refl
      ])
