-- Signed numbers of fewer bits than they are written in: which there are, and that their low bits tell them.
use Rattle.std.proofs.Common.{◌≡◌, ◌⊎◌, ℕ, ◌+◌, ◌-◌, ◌*◌, ◌/◌, ◌%◌, ◌^◌, ◌<◌, ◌≤◌, ap, sym, ◌∙◌, arith, inl, inr}
use Rattle.std.proofs.Math.Nat.{add-mul-mod_self_right, mod-eq_of_lt}
use Rattle.std.proofs.lemmas.Nat.{div-add-mod', pow-add, pow_pos}
use Rattle.bv_dag.specs.BitVectors.{BitVector, extract, sign_extend}
use Rattle.bv_dag.proofs.Numbers.{wider}
use Rattle.term_trees.specs.Trees.{IsOfWidth}
use Rattle.term_simplify.proofs.Truncations.{low_is}
use Rattle.term_simplify.proofs.Words.{by_parts, le_tells, lt_tells, most_false, most_true}

-- a bit-vector of w bits that is a signed one of n bits, widened: moved up by half of 2 ^ n it is below 2 ^ n
abbrev pub IsWithin : (w n : ℕ) → BitVector → Type 0
IsWithin w n x = (x.number + 2 ^ (n - 1)) % 2 ^ w < 2 ^ n

-- a power of two is two halves, and the half of the next one
pub two_halves : (n : ℕ) → 0 < n → 2 ^ n ≡ 2 ^ (n - 1) + 2 ^ (n - 1)
two_halves n some =
    let e : 2 ^ n ≡ 2 * 2 ^ (n - 1) = ap (λ k. 2 ^ k) (omega (arith, some)) ∙ pow-add 2 1 (n - 1) in
    omega (arith, e)

pub half_of_next : (n : ℕ) → 2 ^ (n + 1 - 1) ≡ 2 ^ n
half_of_next n = ap (λ k. 2 ^ k) (omega arith)

-- ---- what tells that a number is within
-- the remainder of a number is any small one that multiples lie between
pub same_rest : (m t r j k : ℕ) → r < m → t + j * m ≡ r + k * m → t % m ≡ r
same_rest m t r j k small e =
    sym (add-mul-mod_self_right t j m) ∙ ap (λ s. s % m) e ∙ add-mul-mod_self_right r k m ∙ mod-eq_of_lt small

by_rest : (w n : ℕ) (x : BitVector) (r j k : ℕ) → n ≤ w → r < 2 ^ n →
    x.number + 2 ^ (n - 1) + j * 2 ^ w ≡ r + k * 2 ^ w → IsWithin w n x
by_rest w n x r j k fits small e =
    omega (arith, small, same_rest (2 ^ w) (x.number + 2 ^ (n - 1)) r j k (omega (arith, small, wider n w fits)) e)

-- the same for a number that is cut to its width
pub by_cut_rest : (w n : ℕ) (x : BitVector) (s r j k : ℕ) → n ≤ w → r < 2 ^ n → x.number ≡ s % 2 ^ w →
    s + 2 ^ (n - 1) + j * 2 ^ w ≡ r + k * 2 ^ w → IsWithin w n x
by_cut_rest w n x s r j k fits small cut e =
    by_rest w n x r (s / 2 ^ w + j) k fits small (omega (arith, cut, div-add-mod' s (2 ^ w), e))

-- it is among the lowest half of 2 ^ n, or among the highest
pub within_lowest : (w n : ℕ) (x : BitVector) → 0 < n → n ≤ w → x.number < 2 ^ (n - 1) → IsWithin w n x
within_lowest w n x some fits small =
    by_rest w n x (x.number + 2 ^ (n - 1)) 0 0 fits (omega (arith, small, two_halves n some)) (omega arith)

pub within_highest : (w n : ℕ) (x : BitVector) → 0 < n → n ≤ w → x.number < 2 ^ w → 2 ^ w ≤ x.number + 2 ^ (n - 1) → IsWithin w n x
within_highest w n x some fits below large =
    by_rest w n x (x.number + 2 ^ (n - 1) - 2 ^ w) 0 1 fits (omega (arith, below, two_halves n some, pow_pos (n - 1))) (omega (arith, large))

pub lowest_or_highest : (w n : ℕ) (x : BitVector) → 0 < n → IsWithin w n x → (x.number < 2 ^ (n - 1)) ⊎ (2 ^ w ≤ x.number + 2 ^ (n - 1))
lowest_or_highest w n x some within =
    elim (lt_tells (x.number + 2 ^ (n - 1)) (2 ^ w)) [
      | inl p ↦ inl (omega (arith, two_halves n some, mod-eq_of_lt p.1, within))
      | inr p ↦ inr p.1
    ]

-- ---- what is within what
pub within_all : (w : ℕ) (x : BitVector) → IsOfWidth w x → IsWithin w w x
within_all w x p =
    elim (lt_tells x.number (2 ^ (w - 1))) [
      | inl low ↦ within_lowest w w x p.not_empty (omega arith) low.1
      | inr high ↦ within_highest w w x p.not_empty (omega arith) p.in_range (omega (arith, high.1, two_halves w p.not_empty))
    ]

pub within_small : (w a : ℕ) (x : BitVector) → x.number < 2 ^ a → a + 1 ≤ w → IsWithin w (a + 1) x
within_small w a x small fits = within_lowest w (a + 1) x (omega arith) fits (omega (arith, small, half_of_next a))

pub within_large : (w a : ℕ) (x : BitVector) → x.number < 2 ^ w → 2 ^ w - 1 - x.number < 2 ^ a → a + 1 ≤ w → IsWithin w (a + 1) x
within_large w a x below large fits = within_highest w (a + 1) x (omega arith) fits below (omega (arith, below, large, half_of_next a))

pub within_wider : (w a b : ℕ) (x : BitVector) → x.number < 2 ^ w → IsWithin w a x → 0 < a → a ≤ b → b ≤ w → IsWithin w b x
within_wider w a b x below within some more fits =
    let half : 2 ^ (a - 1) ≤ 2 ^ (b - 1) = wider (a - 1) (b - 1) (omega (arith, more)) in
    elim (lowest_or_highest w a x some within) [
      | inl low ↦ within_lowest w b x (omega (arith, some, more)) fits (omega (arith, low, half))
      | inr high ↦ within_highest w b x (omega (arith, some, more)) fits below (omega (arith, high, half))
    ]

pub within_sign_extend : (k by : ℕ) (x : BitVector) → IsOfWidth k x → IsWithin (k + by) k (sign_extend by x)
unfolding sign_extend
within_sign_extend k by x p =
    let more : 2 ^ k ≤ 2 ^ (k + by) = wider k (k + by) (omega arith) in
    rw p.width (elim (le_tells (2 ^ (k - 1)) x.number) [
      | inl high ↦ rw high.0 (within_highest (k + by) k (record { width = k + by; number = x.number + (2 ^ (k + by) - 2 ^ k) }) p.not_empty (omega arith)
          (omega (arith, p.in_range, more)) (omega (arith, high.1, two_halves k p.not_empty, more)))
      | inr low ↦ rw low.0 (within_lowest (k + by) k x p.not_empty (omega arith) low.1)
    ])

-- ---- the low bits of a number that is within tell it
pub restored : (w n : ℕ) (x : BitVector) → IsOfWidth w x → 0 < n → n < w → IsWithin w n x → sign_extend (w - n) (extract (n - 1) 0 x) ≡ x
unfolding sign_extend
restored w n x p some fewer within =
    let width : x.width ≡ n + (w - n) = omega (arith, p.width, fewer) in
    let all : 2 ^ (n + (w - n)) ≡ 2 ^ w = ap (λ k. 2 ^ k) (omega (arith, fewer)) in
    let power : 2 ^ w ≡ 2 ^ (w - n) * 2 ^ n = ap (λ k. 2 ^ k) (omega (arith, fewer)) ∙ pow-add 2 (w - n) n in
    let half = two_halves n some in
    rw (low_is n x some) (elim (lowest_or_highest w n x some within) [
      | inl low ↦
          let rest : x.number % 2 ^ n ≡ x.number = mod-eq_of_lt (omega (arith, low, half)) in
          rw (most_false (2 ^ (n - 1)) (x.number % 2 ^ n) (omega (arith, rest, low))) (sym (by_parts _ _ x width (sym rest)))
      | inr high ↦
          let rest : x.number % 2 ^ n ≡ x.number + 2 ^ n - 2 ^ w = same_rest (2 ^ n) x.number (x.number + 2 ^ n - 2 ^ w) 1 (2 ^ (w - n))
          (omega (arith, p.in_range, pow_pos n)) (omega (arith, high, half, power)) in
          rw (most_true (2 ^ (n - 1)) (x.number % 2 ^ n) (omega (arith, rest, high, half)))
          (sym (by_parts _ _ x width (omega (arith, rest, all, high, half, wider n w (omega (arith, fewer))))))
    ])
