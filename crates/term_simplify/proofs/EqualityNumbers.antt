-- An operation with a number is n exactly where its operand is what n is when the operation is undone.
use Rattle.std.proofs.Common.{◌≡◌, ◌==◌, ◌⊎◌, ◌∙◌, ℕ, ◌+◌, ◌-◌, ◌%◌, ◌<◌, ◌≤◌, bit_xor, ap, sym, arith, inl, inr}
use Rattle.std.proofs.Math.Nat.{add-mod_right, mod-eq_of_lt}
use Rattle.std.proofs.lemmas.Bool.Decides.{eqb_tells}
use Rattle.std.specs.Int.Bits.{xor_assoc, xor_self, xor_zero_r}
use Rattle.term_simplify.proofs.Words.{lt_tells, tests_equal, tests_unequal}

-- two tests of which each holds where the other does
pub same_tests : (a b c d : ℕ) → (a ≡ b → c ≡ d) → (c ≡ d → a ≡ b) → (a == b) ≡ (c == d)
same_tests a b c d f g =
    elim (eqb_tells a b) [
      | inl e ↦ e.0 ∙ sym (tests_equal c d (f e.1))
      | inr e ↦ e.0 ∙ sym (tests_unequal c d (λ h. e.1 (g h)))
    ]

back : (a b : ℕ) → b ≤ a → a ≡ (a - b) + b
back a b h = omega (arith, h)

-- a remainder of what is below twice the divisor
pub mod_once : (a b : ℕ) → a < b + b → ((a < b) × (a % b ≡ a)) ⊎ ((b ≤ a) × (a % b + b ≡ a))
mod_once a b h =
    elim (lt_tells a b) [
      | inl p ↦ inl (p.1, mod-eq_of_lt p.1)
      | inr p ↦
          let less : a - b < b = omega (arith, h, p.1) in
          let cut : a % b ≡ a - b = ap (λ k. k % b) (back a b p.1) ∙ add-mod_right (a - b) b ∙ mod-eq_of_lt less in
          inr (p.1, omega (arith, cut, p.1))
    ]

-- x + y is n
pub plus_test : (b x y n : ℕ) → x < b → y < b → n < b → ((x + y) % b == n) ≡ (x == (n + (b - y)) % b)
plus_test b x y n p q r =
    elim (mod_once (x + y) b (omega (arith, p, q))) [
      | inl s ↦ elim (mod_once (n + (b - y)) b (omega (arith, r, q))) [
        | inl t ↦ same_tests _ _ _ _ (λ e. omega (arith, e, s, t, p, q, r)) (λ e. omega (arith, e, s, t, p, q, r))
        | inr t ↦ same_tests _ _ _ _ (λ e. omega (arith, e, s, t, p, q, r)) (λ e. omega (arith, e, s, t, p, q, r))
      ]
      | inr s ↦ elim (mod_once (n + (b - y)) b (omega (arith, r, q))) [
        | inl t ↦ same_tests _ _ _ _ (λ e. omega (arith, e, s, t, p, q, r)) (λ e. omega (arith, e, s, t, p, q, r))
        | inr t ↦ same_tests _ _ _ _ (λ e. omega (arith, e, s, t, p, q, r)) (λ e. omega (arith, e, s, t, p, q, r))
      ]
    ]

test_turned : (a b : ℕ) → (a == b) ≡ (b == a)
test_turned a b = same_tests a b b a (λ e. sym e) (λ e. sym e)

plus_comm : (a b : ℕ) → a + b ≡ b + a
plus_comm a b = omega arith

-- x - y is n: as n + y is x, and as x - n is y
pub less_test : (b x y n : ℕ) → x < b → y < b → n < b → ((x + (b - y)) % b == n) ≡ (x == (n + y) % b)
less_test b x y n p q r = test_turned _ n ∙ sym (plus_test b n y x r q p) ∙ test_turned _ x

pub from_test : (b x y n : ℕ) → x < b → y < b → n < b → ((x + (b - y)) % b == n) ≡ (y == (x + (b - n)) % b)
from_test b x y n p q r =
    less_test b x y n p q r ∙ ap (λ k. x == k % b) (plus_comm n y) ∙ sym (less_test b x n y p r q) ∙ test_turned _ y

-- the negative is n
pub negative_test : (b y n : ℕ) → y < b → n < b → ((b - y) % b == n) ≡ (y == (b - n) % b)
negative_test b y n q r =
    let zero_plus : (k : ℕ) → 0 + k ≡ k = λ k. omega arith in
    ap (λ k. k % b == n) (sym (zero_plus (b - y))) ∙ from_test b 0 y n (omega (arith, q)) q r
    ∙ ap (λ k. y == k % b) (zero_plus (b - n))

-- the complement is n
pub complement_test : (b y n : ℕ) → y < b → n < b → (b - 1 - y == n) ≡ (y == b - 1 - n)
complement_test b y n q r = same_tests _ _ _ _ (λ e. omega (arith, e, q, r)) (λ e. omega (arith, e, q, r))

xor_twice : (x y : ℕ) → bit_xor (bit_xor x y) y ≡ x
xor_twice x y = xor_assoc x y y ∙ ap (bit_xor x) (xor_self y) ∙ xor_zero_r x

-- x ^ y is n
pub xor_test : (x y n : ℕ) → (bit_xor x y == n) ≡ (x == bit_xor n y)
xor_test x y n =
    same_tests _ _ _ _ (λ e. sym (xor_twice x y) ∙ ap (λ k. bit_xor k y) e) (λ e. ap (λ k. bit_xor k y) e ∙ xor_twice n y)
