-- A product by a number is worth the sum of its digits' multiples, and its tree goes by the digits.
use Rattle.std.proofs.Common.{◌≡◌, ◌∙◌, ◌==◌, ℕ, zero, suc, ◌+◌, ◌-◌, ◌*◌, ◌/◌, ◌%◌, ◌^◌, ◌<◌, true, false, cond, refl, ap, sym, arith, inl, inr}
use Rattle.std.proofs.Math.Nat.{add-mod, add-zero, mod-add-mod, add-mul-mod_self_right, div-add-mod, mul-mod_left, mul_comm}
use Rattle.std.proofs.lemmas.Nat.{mod_below, mod-pow-add, pow-add, pow_pos}
use Rattle.bv_dag.specs.BitVectors.{BitVector, bvadd, bvmul, bvneg, bvsub, extract}
use Rattle.bv_dag.specs.Nodes.{binary}
use Rattle.term_trees.specs.Trees.{Tree}
use Rattle.term_simplify.specs.Plain.{part_of, plain_binary, plain_negative}
use Rattle.term_simplify.specs.Times.{digit_op, other_digits, odd_times, raised, raised_word, times, times_word}
use Rattle.term_simplify.proofs.Truncations.{low_is}
use Rattle.term_simplify.proofs.Words.{by_parts, is_apart, tests_equal, tests_unequal}
use Rattle.std.proofs.lemmas.Bool.Decides.{eqb_tells}

-- ---- numbers
-- twice a number of one bit less
double : (w n : ℕ) → 0 < w → n % 2 ^ (w - 1) * 2 ≡ n * 2 % 2 ^ w
double w n some =
    let e : w ≡ (w - 1) + 1 = omega (arith, some) in
    let half : n * 2 / 2 ≡ n = omega arith in
    sym (ap (λ k. n * 2 % 2 ^ k) e ∙ mod-pow-add (n * 2) (w - 1) 1
    ∙ ap (λ m. m % 2 ^ (w - 1) * 2 + n * 2 % 2) half
    ∙ ap (λ m. n % 2 ^ (w - 1) * 2 + m) (mul-mod_left n 2) ∙ add-zero (n % 2 ^ (w - 1) * 2))

-- what is added and taken off again
less_again : (m v a : ℕ) → 0 < m → (v + a + (m - a % m)) % m ≡ v % m
less_again m v a some =
    let r = a % m in
    let q = a / m in
    let small : r < m = mod_below a m some in
    let whole : m * q + r ≡ a = div-add-mod a m in
    let e : v + a + (m - r) ≡ v + (q + 1) * m = omega (arith, small, whole) in
    ap (λ k. k % m) e ∙ add-mul-mod_self_right v (q + 1) m

-- the digit 1
plus_digit : (w x h c : ℕ) → 0 < w → c ≡ h * 2 + 1 → (x * h % 2 ^ (w - 1) * 2 + x % 2 ^ w) % 2 ^ w ≡ x * c % 2 ^ w
plus_digit w x h c some e =
    let whole : x * h * 2 + x ≡ x * (h * 2 + 1) = omega arith in
    ap (λ k. (k + x % 2 ^ w) % 2 ^ w) (double w (x * h) some)
    ∙ sym (add-mod (x * h * 2) x (2 ^ w)) ∙ ap (λ k. k % 2 ^ w) whole ∙ ap (λ k. x * k % 2 ^ w) (sym e)

-- the digit -1
minus_digit : (w x h c : ℕ) → 0 < w → c + 1 ≡ h * 2 → (x * h % 2 ^ (w - 1) * 2 + (2 ^ w - x % 2 ^ w)) % 2 ^ w ≡ x * c % 2 ^ w
minus_digit w x h c some e =
    let twice : x * (h * 2) ≡ x * (c + 1) = ap (λ k. x * k) (sym e) in
    let whole : x * h * 2 ≡ x * c + x = omega (arith, twice) in
    ap (λ k. (k + (2 ^ w - x % 2 ^ w)) % 2 ^ w) (double w (x * h) some)
    ∙ mod-add-mod (x * h * 2) (2 ^ w) (2 ^ w - x % 2 ^ w)
    ∙ ap (λ k. (k + (2 ^ w - x % 2 ^ w)) % 2 ^ w) whole ∙ less_again (2 ^ w) (x * c) x (pow_pos w)

-- the number -1
minus_one : (w x c : ℕ) → c + 1 ≡ 2 ^ w → (2 ^ w - x % 2 ^ w) % 2 ^ w ≡ x * c % 2 ^ w
minus_one w x c e =
    let twice : x * (c + 1) ≡ x * 2 ^ w = ap (λ k. x * k) e in
    let whole : (2 ^ w - x % 2 ^ w) + x * 2 ^ w ≡ x * c + x + (2 ^ w - x % 2 ^ w) = omega (arith, twice) in
    sym (add-mul-mod_self_right (2 ^ w - x % 2 ^ w) x (2 ^ w)) ∙ ap (λ k. k % 2 ^ w) whole ∙ less_again (2 ^ w) (x * c) x (pow_pos w)

-- ---- what the numbers of fewer digits may be
pub has_bits : (w n : ℕ) → 0 < n → n < 2 ^ w → 0 < w
has_bits zero n some small = absurd (omega (arith, some, small))
has_bits (suc w) n some small = omega arith

half_power : (w : ℕ) → 0 < w → 2 ^ w ≡ 2 ^ (w - 1) * 2
half_power w some =
    let e : w ≡ (w - 1) + 1 = omega (arith, some) in
    ap (λ k. 2 ^ k) e ∙ pow-add 2 (w - 1) 1

pub half_fits : (w n : ℕ) → 0 < w → n < 2 ^ w → n / 2 < 2 ^ (w - 1)
half_fits w n some small = omega (arith, half_power w some, small)

pub others_some : (n : ℕ) → n % 2 ≡ 1 → (n ≡ 1 → ⊥) → 0 < other_digits n
others_some n odd more =
    elim (eqb_tells (n % 4) 1) [
      | inl h ↦ rw h.0 (omega (arith, odd, more))
      | inr h ↦ rw h.0 (omega arith)
    ]

pub others_fit : (w n : ℕ) → 0 < w → n % 2 ≡ 1 → n < 2 ^ w → (n + 1 == 2 ^ w) ≡ false → other_digits n < 2 ^ (w - 1)
others_fit w n some odd small top =
    let apart : n + 1 ≡ 2 ^ w → ⊥ = is_apart (n + 1) (2 ^ w) top in
    elim (eqb_tells (n % 4) 1) [
      | inl h ↦ rw h.0 (half_fits w n some small)
      | inr h ↦ rw h.0 (omega (arith, half_power w some, small, odd, apart))
    ]

-- ---- words
-- a product that isn't moved up
unraised : (w c : ℕ) (x : BitVector) → times_word w 0 c x ≡ record { width = w; number = x.number * c % 2 ^ w }
unraised w c x = by_parts w (x.number * c % 2 ^ w) (times_word w 0 c x) (omega arith) (omega arith)

-- the product itself, of a number as the first or the second operand
pub word_first : (x y : BitVector) → times_word x.width 0 x.number y ≡ bvmul x y
unfolding bvmul
word_first x y = unraised x.width x.number y ∙ ap {B = BitVector} (λ k. record { width = x.width; number = k % 2 ^ x.width }) (mul_comm y.number x.number)

pub word_second : (x y : BitVector) → x.width ≡ y.width → times_word y.width 0 y.number x ≡ bvmul x y
unfolding bvmul
word_second x y e = unraised y.width y.number x ∙ ap {B = BitVector} (λ w. record { width = w; number = x.number * y.number % 2 ^ w }) (sym e)

pub word_raised : (w by c : ℕ) (x : BitVector) → raised_word by (times_word w 0 c x) ≡ times_word w by c x
word_raised w by c x = ap (raised_word by) (unraised w c x)

pub word_even : (w by c : ℕ) (x : BitVector) → 0 < w → c % 2 ≡ 0 → times_word (w - 1) (by + 1) (c / 2) x ≡ times_word w by c x
word_even w by c x some e =
    let n = x.number in
    let whole : c / 2 * 2 ≡ c = omega (arith, e) in
    let product : n * (c / 2) * 2 ≡ n * (c / 2 * 2) = omega arith in
    let power : 2 ^ (by + 1) ≡ 2 ^ by * 2 = pow-add 2 by 1 in
    let turned : n * (c / 2) % 2 ^ (w - 1) * (2 ^ by * 2) ≡ n * (c / 2) % 2 ^ (w - 1) * 2 * 2 ^ by = omega arith in
    by_parts (w + by) (n * c % 2 ^ w * 2 ^ by) (times_word (w - 1) (by + 1) (c / 2) x) (omega (arith, some))
    (ap (λ k. n * (c / 2) % 2 ^ (w - 1) * k) power ∙ turned ∙ ap (λ k. k * 2 ^ by) (double w (n * (c / 2)) some)
    ∙ ap (λ k. k % 2 ^ w * 2 ^ by) (product ∙ ap (λ k. n * k) whole))

pub word_one : (w c : ℕ) (x : BitVector) → 0 < w → c ≡ 1 → extract (w - 1) 0 x ≡ times_word w 0 c x
word_one w c x some e =
    let one : x.number ≡ x.number * 1 = omega arith in
    low_is w x some ∙ ap {B = BitVector} (λ k. record { width = w; number = k % 2 ^ w }) (one ∙ ap (λ k. x.number * k) (sym e))
    ∙ sym (unraised w c x)

pub word_minus : (w c : ℕ) (x : BitVector) → 0 < w → c + 1 ≡ 2 ^ w → bvneg (extract (w - 1) 0 x) ≡ times_word w 0 c x
unfolding bvneg
word_minus w c x some e =
    ap bvneg (low_is w x some) ∙ ap {B = BitVector} (λ k. record { width = w; number = k }) (minus_one w x.number c e) ∙ sym (unraised w c x)

digit_word : (w h c : ℕ) (x : BitVector) → 0 < w → times_word (w - 1) 1 h x ≡ record { width = w; number = x.number * h % 2 ^ (w - 1) * 2 }
digit_word w h c x some = by_parts w (x.number * h % 2 ^ (w - 1) * 2) (times_word (w - 1) 1 h x) (omega (arith, some)) refl

word_add : (w h c : ℕ) (x : BitVector) → 0 < w → c ≡ h * 2 + 1 → bvadd (times_word (w - 1) 1 h x) (extract (w - 1) 0 x) ≡ times_word w 0 c x
unfolding bvadd
word_add w h c x some e =
    ap (λ k. bvadd k (extract (w - 1) 0 x)) (digit_word w h c x some)
    ∙ ap (bvadd (record { width = w; number = x.number * h % 2 ^ (w - 1) * 2 })) (low_is w x some)
    ∙ ap {B = BitVector} (λ k. record { width = w; number = k }) (plus_digit w x.number h c some e) ∙ sym (unraised w c x)

word_sub : (w h c : ℕ) (x : BitVector) → 0 < w → c + 1 ≡ h * 2 → bvsub (times_word (w - 1) 1 h x) (extract (w - 1) 0 x) ≡ times_word w 0 c x
unfolding bvsub
word_sub w h c x some e =
    ap (λ k. bvsub k (extract (w - 1) 0 x)) (digit_word w h c x some)
    ∙ ap (bvsub (record { width = w; number = x.number * h % 2 ^ (w - 1) * 2 })) (low_is w x some)
    ∙ ap {B = BitVector} (λ k. record { width = w; number = k }) (minus_digit w x.number h c some e) ∙ sym (unraised w c x)

pub word_digit : (w c : ℕ) (x : BitVector) → 0 < w → c % 2 ≡ 1 →
    binary (digit_op c) (times_word (w - 1) 1 (other_digits c) x) (extract (w - 1) 0 x) ≡ times_word w 0 c x
word_digit w c x some odd =
    elim (eqb_tells (c % 4) 1) [
      | inl h ↦ rw h.0 (word_add w (c / 2) c x some (omega (arith, odd)))
      | inr h ↦ rw h.0 (word_sub w (c / 2 + 1) c x some (omega (arith, odd)))
    ]

-- ---- trees
times_step : (w by c : ℕ) (t : Tree) → 0 < w → times w by c t ≡
    cond (c % 2 == 0) (times (w - 1) (by + 1) (c / 2) t) (raised by (odd_times w c (times (w - 1) 1 (other_digits c) t) (part_of (w - 1) 0 t)))
unfolding times
times_step zero by c t some = absurd (omega (arith, some))
times_step (suc w) by c t some =
    let e : suc w - 1 ≡ w = omega arith in
    rw e refl

pub tree_even : (w by c : ℕ) (t : Tree) → 0 < w → c % 2 ≡ 0 → times (w - 1) (by + 1) (c / 2) t ≡ times w by c t
tree_even w by c t some e = sym (times_step w by c t some ∙ rw (tests_equal (c % 2) 0 e) refl)

tree_odd : (w by c : ℕ) (t : Tree) → 0 < w → c % 2 ≡ 1 →
    raised by (odd_times w c (times (w - 1) 1 (other_digits c) t) (part_of (w - 1) 0 t)) ≡ times w by c t
tree_odd w by c t some e = sym (times_step w by c t some ∙ rw (tests_unequal (c % 2) 0 (λ z. omega (arith, z, e))) refl)

pub tree_one : (w by c : ℕ) (t : Tree) → 0 < w → c ≡ 1 → raised by (part_of (w - 1) 0 t) ≡ times w by c t
tree_one w by c t some e = sym (ap (raised by) (rw (tests_equal c 1 e) refl)) ∙ tree_odd w by c t some (omega (arith, e))

pub tree_minus : (w by c : ℕ) (t : Tree) → 0 < w → c % 2 ≡ 1 → (c ≡ 1 → ⊥) → (c + 1 == 2 ^ w) ≡ true →
    raised by (plain_negative (part_of (w - 1) 0 t)) ≡ times w by c t
tree_minus w by c t some odd more e =
    sym (ap (raised by) (rw (tests_unequal c 1 more, e) refl)) ∙ tree_odd w by c t some odd

pub tree_digit : (w by c : ℕ) (t : Tree) → 0 < w → c % 2 ≡ 1 → (c ≡ 1 → ⊥) → (c + 1 == 2 ^ w) ≡ false →
    raised by (plain_binary (digit_op c) (times (w - 1) 1 (other_digits c) t) (part_of (w - 1) 0 t)) ≡ times w by c t
tree_digit w by c t some odd more e =
    sym (ap (raised by) (rw (tests_unequal c 1 more, e) refl)) ∙ tree_odd w by c t some odd
