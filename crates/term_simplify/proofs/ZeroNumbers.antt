-- Numbers with zeros at their low end: what is made of the bits above them is worth what is made of the numbers.
use Rattle.std.proofs.Common.{◌≡◌, ◌==◌, ◌∙◌, ℕ, zero, suc, ◌+◌, ◌-◌, ◌*◌, ◌/◌, ◌%◌, ◌^◌, ◌<◌, ◌≤◌, refl, ap, sym, arith, inl, inr}
use Rattle.std.specs.Prelude.{nat_le, nat_lt}
use Rattle.std.specs.Int.Count.{count_trailing_zeros, under}
use Rattle.std.proofs.Math.Nat.{add-mod, add-zero, mod-eq_of_lt, mod-one, mul-mod_left}
use Rattle.std.proofs.lemmas.Bool.Decides.{eqb_tells}
use Rattle.std.proofs.lemmas.Nat.{mod-pow-add, mul-le, mul-mod, pow-add, pow_pos, shl-shr, shr_below, shr_split}
use Rattle.bv_dag.specs.BitVectors.{BitVector, bvadd, bvmul, bvslt, bvsub, bvult, concat, equal, extract, is_negative}
use Rattle.bv_dag.specs.Nodes.{compare}
use Rattle.bv_dag.specs.declared.nodes.BinaryOp.TheVariants.{Add, Sub, Mul}
use Rattle.bv_dag.specs.declared.nodes.Comparison.{Comparison}
use Rattle.bv_dag.specs.declared.nodes.Comparison.TheVariants.{Ult, Slt, Eq}
use Rattle.term_trees.specs.Trees.{IsOfWidth}
use Rattle.term_simplify.specs.Zeros.{alike, test_above, word_above, word_from}
use Rattle.term_simplify.proofs.Truncations.{cut_again}
use Rattle.term_simplify.proofs.Words.{by_parts, le_tells, lt_tells, most_false, most_true, tests_below, tests_equal, tests_not_below, tests_unequal}

-- so many low bits of a number are zeros
abbrev pub EndsIn : (zeros number : ℕ) → Type 0
EndsIn k n = n % 2 ^ k ≡ 0

pub ends_in_none : (n : ℕ) → EndsIn 0 n
ends_in_none n = mod-one n

pub ends_in_fewer : (l k n : ℕ) → k ≤ l → EndsIn l n → EndsIn k n
ends_in_fewer l k n few e = sym (cut_again l k n few) ∙ ap (λ m. m % 2 ^ k) e ∙ mod-eq_of_lt (pow_pos k)

pub ends_in_times : (k n : ℕ) → EndsIn k (n * 2 ^ k)
ends_in_times k n = mul-mod_left n (2 ^ k)

pub ends_in_sum : (k n m : ℕ) → EndsIn k n → EndsIn k m → EndsIn k (n + m)
ends_in_sum k n m e f =
    add-mod n m (2 ^ k) ∙ ap (λ j. (j + m % 2 ^ k) % 2 ^ k) e ∙ ap (λ j. (0 + j) % 2 ^ k) f ∙ mod-eq_of_lt (pow_pos k)

-- copies of a sign above so many bits
pub ends_in_signs : (w by k : ℕ) → k ≤ w → EndsIn k (2 ^ (w + by) - 2 ^ w)
ends_in_signs w by k few =
    let d = 2 ^ by - 1 in
    let one : 2 ^ by ≡ d + 1 = omega (arith, pow_pos by) in
    let power : 2 ^ (w + by) ≡ 2 ^ w * (d + 1) = pow-add 2 w by ∙ ap (λ j. 2 ^ w * j) one in
    let times : 2 ^ (w + by) - 2 ^ w ≡ d * 2 ^ w = omega (arith, power) in
    ap (λ n. n % 2 ^ k) times ∙ ends_in_fewer w k (d * 2 ^ w) few (ends_in_times w d)

-- a number's trailing zeros
even_ends : (k n : ℕ) → n % 2 ≡ 0 → EndsIn k (n / 2) → EndsIn (k + 1) n
even_ends k n even e = mod-pow-add n k 1 ∙ omega (arith, even, e)

ends_under : (n digit t : ℕ) → n % 2 ≡ digit → EndsIn t (n / 2) → EndsIn (under digit t) n
ends_under n zero t even e = let more : suc t ≡ t + 1 = omega arith in ap (λ j. n % 2 ^ j) more ∙ even_ends t n even e
ends_under n (suc d) t even e = ends_in_none n

pub ends_in_trailing : (k n : ℕ) → EndsIn (count_trailing_zeros k n) n
unfolding count_trailing_zeros
ends_in_trailing zero n = ends_in_none n
ends_in_trailing (suc k) n = ends_under n (n % 2) (count_trailing_zeros k (n / 2)) refl (ends_in_trailing k (n / 2))

-- ---- what is above
whole : (k n : ℕ) → EndsIn k n → n / 2 ^ k * 2 ^ k ≡ n
whole k n e = omega (arith, shr_split n k, e)

scaled : (m k n : ℕ) → n * 2 ^ k % 2 ^ (m + k) ≡ n % 2 ^ m * 2 ^ k
scaled m k n =
    mod-pow-add (n * 2 ^ k) m k ∙ ap (λ j. j % 2 ^ m * 2 ^ k + n * 2 ^ k % 2 ^ k) (shl-shr n k)
    ∙ ap (λ j. n % 2 ^ m * 2 ^ k + j) (mul-mod_left n (2 ^ k)) ∙ add-zero (n % 2 ^ m * 2 ^ k)

from_is : (low m : ℕ) (x : BitVector) → 0 < m → word_from low m x ≡ record { width = m; number = x.number / 2 ^ low % 2 ^ m }
unfolding extract
from_is low m x some =
    let wide : low + m - 1 - low + 1 ≡ m = omega (arith, some) in
    by_parts m (x.number / 2 ^ low % 2 ^ m) _ wide (ap (λ k. x.number / 2 ^ low % 2 ^ k) wide)

upper_is : (w k : ℕ) (x : BitVector) → IsOfWidth w x → k < w → word_from k (w - k) x ≡ record { width = w - k; number = x.number / 2 ^ k }
upper_is w k x p fewer =
    let wide : w ≡ (w - k) + k = omega (arith, fewer) in
    from_is k (w - k) x (omega (arith, fewer))
    ∙ ap {B = BitVector} (λ n. record { width = w - k; number = n }) (mod-eq_of_lt (shr_below x.number (w - k) k (rw (← wide) p.in_range)))

above : (w k n : ℕ) (x : BitVector) → k ≤ w → x.width ≡ w - k → x.number * 2 ^ k ≡ n → concat x (record { width = k; number = 0 }) ≡ record { width = w; number = n }
unfolding concat
above w k n x few wide e = by_parts w n _ (omega (arith, wide, few)) (omega (arith, e))

-- ---- two numbers with so many zeros
module _ (w k : ℕ) (x y : BitVector) (p : IsOfWidth w x) (q : IsOfWidth w y) (fewer : k < w) (first : EndsIn k x.number) (second : EndsIn k y.number) where
  split : w ≡ (w - k) + k
  split = omega (arith, fewer)

  below : y.number / 2 ^ k < 2 ^ (w - k)
  below = shr_below y.number (w - k) k (rw (← split) q.in_range)

  pub sum_above : word_above (w - k) (alike k) Add x y ≡ bvadd x y
  unfolding bvadd
  sum_above =
      let m = w - k in
      let both : (x.number / 2 ^ k + y.number / 2 ^ k) * 2 ^ k ≡ x.number + y.number = omega (arith, whole k x.number first, whole k y.number second) in
      rw (upper_is w k x p fewer, upper_is w k y q fewer, p.width)
      (above w k _ (record { width = m; number = (x.number / 2 ^ k + y.number / 2 ^ k) % 2 ^ m }) (omega (arith, fewer)) refl
      (sym (scaled m k (x.number / 2 ^ k + y.number / 2 ^ k)) ∙ ap (λ j. (x.number / 2 ^ k + y.number / 2 ^ k) * 2 ^ k % 2 ^ j) (sym split)
      ∙ ap (λ j. j % 2 ^ w) both))

  pub difference_above : word_above (w - k) (alike k) Sub x y ≡ bvsub x y
  unfolding bvsub
  difference_above =
      let m = w - k in
      let n = x.number / 2 ^ k + (2 ^ m - y.number / 2 ^ k) in
      let power : 2 ^ w ≡ 2 ^ m * 2 ^ k = ap (λ j. 2 ^ j) split ∙ pow-add 2 m k in
      let rest = 2 ^ m - y.number / 2 ^ k in
      let all : 2 ^ m ≡ rest + y.number / 2 ^ k = omega (arith, below) in
      let parts : 2 ^ w ≡ rest * 2 ^ k + y.number / 2 ^ k * 2 ^ k = power ∙ ap (λ j. j * 2 ^ k) all ∙ omega arith in
      let both : n * 2 ^ k ≡ x.number + (2 ^ w - y.number) = omega (arith, whole k x.number first, whole k y.number second, parts) in
      rw (upper_is w k x p fewer, upper_is w k y q fewer, p.width, q.width)
      (above w k _ (record { width = m; number = n % 2 ^ m }) (omega (arith, fewer)) refl
      (sym (scaled m k n) ∙ ap (λ j. n * 2 ^ k % 2 ^ j) (sym split) ∙ ap (λ j. j % 2 ^ w) both))

-- ---- products
product_of : (j k a b : ℕ) → EndsIn j a → EndsIn k b → a / 2 ^ j * (b / 2 ^ k) * 2 ^ (j + k) ≡ a * b
product_of j k a b e f =
    let p = a / 2 ^ j in
    let q = b / 2 ^ k in
    let power : p * q * 2 ^ (j + k) ≡ p * q * (2 ^ j * 2 ^ k) = ap (λ i. p * q * i) (pow-add 2 j k) in
    let turned : p * q * (2 ^ j * 2 ^ k) ≡ p * 2 ^ j * (q * 2 ^ k) = omega arith in
    power ∙ turned ∙ ap (λ i. i * (q * 2 ^ k)) (whole j a e) ∙ ap (λ i. a * i) (whole k b f)

pub product_above : (w j k : ℕ) (x y : BitVector) → x.width ≡ w → j + k < w → EndsIn j x.number → EndsIn k y.number →
    word_above (w - (j + k)) (record { first = j; second = k; result = j + k }) Mul x y ≡ bvmul x y
unfolding bvmul
product_above w j k x y wide fewer first second =
    let m = w - (j + k) in
    let z = j + k in
    let some : 0 < m = omega (arith, fewer) in
    let split : m + z ≡ w = omega (arith, fewer) in
    let a = x.number / 2 ^ j in
    let b = y.number / 2 ^ k in
    rw (from_is j m x some, from_is k m y some, wide)
    (above w z _ (record { width = m; number = a % 2 ^ m * (b % 2 ^ m) % 2 ^ m }) (omega (arith, fewer)) refl
    (ap (λ i. i * 2 ^ z) (sym (mul-mod a b (2 ^ m))) ∙ sym (scaled m z (a * b)) ∙ ap (λ i. a * b * 2 ^ z % 2 ^ i) split
    ∙ ap (λ i. i % 2 ^ w) (product_of j k x.number y.number first second)))

-- ---- comparisons
more : (k a b : ℕ) → a < b → a * 2 ^ k < b * 2 ^ k
more k a b h = omega (arith, mul-le (a + 1) (2 ^ k) b (2 ^ k) (omega (arith, h)) (omega arith), pow_pos k)

most : (k a b : ℕ) → a ≤ b → a * 2 ^ k ≤ b * 2 ^ k
most k a b h = mul-le a (2 ^ k) b (2 ^ k) h (omega arith)

same_below : (k a b : ℕ) → nat_lt a b ≡ nat_lt (a * 2 ^ k) (b * 2 ^ k)
same_below k a b =
    elim (lt_tells a b) [
      | inl h ↦ h.0 ∙ sym (tests_below _ _ (more k a b h.1))
      | inr h ↦ h.0 ∙ sym (tests_not_below _ _ (most k b a h.1))
    ]

same_most : (k a b : ℕ) → nat_le a b ≡ nat_le (a * 2 ^ k) (b * 2 ^ k)
same_most k a b =
    elim (le_tells a b) [
      | inl h ↦ h.0 ∙ sym (most_true _ _ (most k a b h.1))
      | inr h ↦ h.0 ∙ sym (most_false _ _ (more k b a h.1))
    ]

same_equal : (k a b : ℕ) → (a == b) ≡ (a * 2 ^ k == b * 2 ^ k)
same_equal k a b =
    elim (eqb_tells a b) [
      | inl h ↦ h.0 ∙ sym (tests_equal _ _ (ap (λ n. n * 2 ^ k) h.1))
      | inr h ↦
          h.0 ∙ sym (tests_unequal _ _ (λ e. h.1 (sym (shl-shr a k) ∙ ap (λ n. n / 2 ^ k) e ∙ shl-shr b k)))
    ]

same_sign : (w k : ℕ) (x : BitVector) → x.width ≡ w → k < w → EndsIn k x.number →
    is_negative (record { width = w - k; number = x.number / 2 ^ k }) ≡ is_negative x
same_sign w k x wide fewer ends =
    let half : 2 ^ (w - k - 1) * 2 ^ k ≡ 2 ^ (w - 1) = sym (pow-add 2 (w - k - 1) k) ∙ ap (λ j. 2 ^ j) (omega (arith, fewer)) in
    same_most k (2 ^ (w - k - 1)) (x.number / 2 ^ k) ∙ ap (λ n. nat_le n (x.number / 2 ^ k * 2 ^ k)) half
    ∙ ap (λ n. nat_le (2 ^ (w - 1)) n) (whole k x.number ends) ∙ ap (λ n. nat_le (2 ^ (n - 1)) x.number) (sym wide)

pub tests_above : (w k : ℕ) (op : Comparison) (x y : BitVector) → IsOfWidth w x → IsOfWidth w y → k < w → EndsIn k x.number → EndsIn k y.number →
    test_above (w - k) (alike k) op x y ≡ compare op x y
unfolding bvult bvslt equal
tests_above w k Ult x y p q fewer first second =
    rw (upper_is w k x p fewer, upper_is w k y q fewer, same_below k (x.number / 2 ^ k) (y.number / 2 ^ k), whole k x.number first, whole k y.number second) refl
tests_above w k Slt x y p q fewer first second =
    rw (upper_is w k x p fewer, upper_is w k y q fewer)
    (rw (same_sign w k x p.width fewer first, same_sign w k y q.width fewer second, same_below k (x.number / 2 ^ k) (y.number / 2 ^ k), whole k x.number first, whole k y.number second) refl)
tests_above w k Eq x y p q fewer first second =
    rw (upper_is w k x p fewer, upper_is w k y q fewer, same_equal k (x.number / 2 ^ k) (y.number / 2 ^ k), whole k x.number first, whole k y.number second) refl
