-- Rows as numbers: their bounds, and what rows are worth that are put together, cut, copied or negated.
use Rattle.std.proofs.Common.{◌≡◌, ℕ, zero, suc, ◌+◌, ◌*◌, ◌^◌, ◌/◌, ◌%◌, ◌==◌, ◌<◌, ◌≤◌, Bool, true, false, not, List, [], ◌∷◌, ◌++◌, length, take, drop, replicate, refl, ap, sym, ◌∙◌, arith, add_comm}
use Rattle.std.proofs.Math.Nat.{pow-succ', mul_assoc, mul_comm, zero-div, div-one, div-div-eq-div-mul, div-add-mod, mod-lt, mod-eq_of_lt, add-mul-mod_self_left}
use Rattle.std.proofs.lemmas.Nat.{mod-mul-add, pow_pos}
use Rattle.cnf_form.specs.Literals.{Literal, negation}
use Rattle.cnf_form.specs.Valuations.{literal_value}
use Rattle.circuit_spec.specs.Bytes.{bit_of, number_of_row}
use Rattle.circuit_spec.specs.Formulas.{constant}
use Rattle.circuit_spec.specs.Rows.{negations, number_row}
use Rattle.circuit_spec.proofs.Truths.{value_not, constant_value}

pub bit_small : (b : Bool) → bit_of b ≤ 1
bit_small true = omega arith
bit_small false = omega arith

bit_not : (b : Bool) → bit_of (not b) + bit_of b ≡ 1
bit_not true = refl
bit_not false = refl

pub power_times : (n m : ℕ) → 2 ^ suc n * m ≡ 2 * (2 ^ n * m)
power_times n m = ap (λ k. k * m) (pow-succ' 2 n) ∙ mul_assoc 2 (2 ^ n) m

-- a number that is small, but for a multiple
pub modulo : (w r k n : ℕ) → r < 2 ^ w → r + 2 ^ w * k ≡ n → r ≡ n % 2 ^ w
modulo w r k n small all = sym (mod-eq_of_lt small) ∙ sym (add-mul-mod_self_left r (2 ^ w) k) ∙ ap (λ m. m % 2 ^ w) all

pub number_nil : (v : ℕ → Bool) → number_of_row v [] ≡ 0
unfolding number_of_row
number_nil v = refl

pub number_cons : (v : ℕ → Bool) (l : Literal) (ls : List Literal) → number_of_row v (l ∷ ls) ≡ bit_of (literal_value v l) + 2 * number_of_row v ls
unfolding number_of_row
number_cons v l ls = refl

pub number_one : (v : ℕ → Bool) (l : Literal) → number_of_row v (l ∷ []) ≡ bit_of (literal_value v l)
unfolding number_of_row
number_one v l = omega arith

pub number_bound : (v : ℕ → Bool) (ls : List Literal) → number_of_row v ls < 2 ^ length ls
unfolding number_of_row
number_bound v [] = omega arith
number_bound v (l ∷ ls) =
    let rest : number_of_row v ls < 2 ^ length ls = number_bound v ls in
    let low : bit_of (literal_value v l) ≤ 1 = bit_small (literal_value v l) in
    rw (pow-succ' 2 (length ls)) (omega arith)

pub number_below : (v : ℕ → Bool) (ls : List Literal) (n : ℕ) → length ls ≡ n → number_of_row v ls < 2 ^ n
number_below v ls n long = rw (← long) (number_bound v ls)

-- one row above another
append_step : (x a b p q s : ℕ) → s ≡ a + p * b → q * b ≡ 2 * (p * b) → x + 2 * s ≡ x + 2 * a + q * b
append_step x a b p q s sum double = omega arith

pub number_append : (v : ℕ → Bool) (a b : List Literal) → number_of_row v (a ++ b) ≡ number_of_row v a + 2 ^ length a * number_of_row v b
number_append v [] b = rw (number_nil v) (omega arith)
number_append v (l ∷ ls) b =
    rw (number_cons v l (ls ++ b), number_cons v l ls)
    (append_step (bit_of (literal_value v l)) (number_of_row v ls) (number_of_row v b) (2 ^ length ls) (2 ^ suc (length ls)) _ (number_append v ls b) (power_times (length ls) (number_of_row v b)))

-- copies of one literal
pub number_falses : (v : ℕ → Bool) (w : ℕ) (l : Literal) → literal_value v l ≡ false → number_of_row v (replicate w l) ≡ 0
number_falses v zero l is = number_nil v
number_falses v (suc w) l is = rw (number_cons v l (replicate w l), is, number_falses v w l is) refl

trues_step : (n p q : ℕ) → n + 1 ≡ p → q ≡ 2 * p → 1 + 2 * n + 1 ≡ q
trues_step n p q rest double = omega arith

pub number_trues : (v : ℕ → Bool) (w : ℕ) (l : Literal) → literal_value v l ≡ true → number_of_row v (replicate w l) + 1 ≡ 2 ^ w
number_trues v zero l is = rw (number_nil v) refl
number_trues v (suc w) l is =
    rw (number_cons v l (replicate w l), is)
    (trues_step (number_of_row v (replicate w l)) (2 ^ w) (2 ^ suc w) (number_trues v w l is) (pow-succ' 2 w))

pub falses_above : (v : ℕ → Bool) (a : List Literal) (by : ℕ) (l : Literal) → literal_value v l ≡ false → number_of_row v (a ++ replicate by l) ≡ number_of_row v a
falses_above v a by l is = number_append v a (replicate by l) ∙ rw (number_falses v by l is) (omega arith)

-- each literal negated
negations_step : (x y m n p q : ℕ) → x + y ≡ 1 → m + n + 1 ≡ p → q ≡ 2 * p → x + 2 * m + (y + 2 * n) + 1 ≡ q
negations_step x y m n p q one rest double = omega arith

pub number_negations : (v : ℕ → Bool) (a : List Literal) → number_of_row v (negations a) + number_of_row v a + 1 ≡ 2 ^ length a
number_negations v [] = rw (number_nil v) refl
number_negations v (l ∷ ls) =
    rw (number_cons v (negation l) (negations ls), number_cons v l ls, value_not v l)
    (negations_step (bit_of (not (literal_value v l))) (bit_of (literal_value v l)) _ _ (2 ^ length ls) (2 ^ suc (length ls)) (bit_not (literal_value v l)) (number_negations v ls) (pow-succ' 2 (length ls)))

-- the places from k up
pub half_of : (x n : ℕ) → x ≤ 1 → (x + 2 * n) / 2 ≡ n
half_of x n small = omega arith

div_step : (x n k : ℕ) → x ≤ 1 → (x + 2 * n) / 2 ^ suc k ≡ n / 2 ^ k
div_step x n k small =
    ap (λ m. (x + 2 * n) / m) (pow-succ' 2 k) ∙ sym (div-div-eq-div-mul (x + 2 * n) 2 (2 ^ k)) ∙ ap (λ m. m / 2 ^ k) (half_of x n small)

pub number_drop : (v : ℕ → Bool) (k : ℕ) (a : List Literal) → number_of_row v (drop k a) ≡ number_of_row v a / 2 ^ k
number_drop v zero a = sym (div-one (number_of_row v a))
number_drop v (suc k) [] = rw (number_nil v) (sym (zero-div (2 ^ suc k)))
number_drop v (suc k) (l ∷ ls) =
    number_drop v k ls ∙ sym (ap (λ m. m / 2 ^ suc k) (number_cons v l ls) ∙ div_step (bit_of (literal_value v l)) (number_of_row v ls) k (bit_small (literal_value v l)))

-- the places below k
mod_parts : (x n p q r t z : ℕ) → x ≤ 1 → n ≡ z + r → q * t ≡ 2 * z → x + 2 * n ≡ q * t + (x + 2 * r)
mod_parts x n p q r t z small parts double = omega arith

below_double : (x r p q : ℕ) → x ≤ 1 → r < p → q ≡ 2 * p → x + 2 * r < q
below_double x r p q small rest double = omega arith

mod_step : (x n k : ℕ) → x ≤ 1 → (x + 2 * n) % 2 ^ suc k ≡ x + 2 * (n % 2 ^ k)
mod_step x n k small =
    let parts : x + 2 * n ≡ (2 ^ suc k) * (n / 2 ^ k) + (x + 2 * (n % 2 ^ k))
    = mod_parts x n (2 ^ k) (2 ^ suc k) (n % 2 ^ k) (n / 2 ^ k) (2 ^ k * (n / 2 ^ k)) small (sym (div-add-mod n (2 ^ k))) (power_times k (n / 2 ^ k)) in
    ap (λ m. m % 2 ^ suc k) (parts ∙ ap (λ m. m + (x + 2 * (n % 2 ^ k))) (mul_comm (2 ^ suc k) (n / 2 ^ k)))
    ∙ mod-mul-add (n / 2 ^ k) (2 ^ suc k) (x + 2 * (n % 2 ^ k)) (below_double x (n % 2 ^ k) (2 ^ k) (2 ^ suc k) small (mod-lt n (pow_pos k)) (pow-succ' 2 k))

pub number_take : (v : ℕ → Bool) (k : ℕ) (a : List Literal) → number_of_row v (take k a) ≡ number_of_row v a % 2 ^ k
number_take v zero a = rw (number_nil v) (omega arith)
number_take v (suc k) [] = rw (number_nil v) (sym (mod-eq_of_lt (pow_pos (suc k))))
number_take v (suc k) (l ∷ ls) =
    number_cons v l (take k ls) ∙ ap (λ m. bit_of (literal_value v l) + 2 * m) (number_take v k ls)
    ∙ sym (ap (λ m. m % 2 ^ suc k) (number_cons v l ls) ∙ mod_step (bit_of (literal_value v l)) (number_of_row v ls) k (bit_small (literal_value v l)))

-- a number by its low bits and those above
pub number_split : (v : ℕ → Bool) (k : ℕ) (a : List Literal) → number_of_row v a ≡ number_of_row v (take k a) + 2 ^ k * number_of_row v (drop k a)
number_split v k a =
    rw (number_take v k a, number_drop v k a) (sym (add_comm (number_of_row v a % 2 ^ k) (2 ^ k * (number_of_row v a / 2 ^ k)) ∙ div-add-mod (number_of_row v a) (2 ^ k)))

-- a small number is what its low bits are
pub number_low : (v : ℕ → Bool) (k : ℕ) (a : List Literal) → number_of_row v a < 2 ^ k → number_of_row v (take k a) ≡ number_of_row v a
number_low v k a small = number_take v k a ∙ mod-eq_of_lt small

-- the bits of a number
bit_of_odd : (n : ℕ) → n < 2 → bit_of (n == 1) ≡ n
bit_of_odd zero small = refl
bit_of_odd (suc zero) small = refl
bit_of_odd (suc (suc n)) small = absurd (omega arith)

pub low_bit : (n : ℕ) → bit_of (n % 2 == 1) + 2 * (n / 2) ≡ n
low_bit n = rw (bit_of_odd (n % 2) (omega arith)) (omega arith)

pub number_number_row : (v : ℕ → Bool) → v 1 ≡ true → (w n : ℕ) → number_of_row v (number_row w n) ≡ n % 2 ^ w
unfolding number_row
number_number_row v truth zero n = rw (number_nil v) (omega arith)
number_number_row v truth (suc w) n =
    number_cons v (constant (n % 2 == 1)) (number_row w (n / 2))
    ∙ ap (λ (b : Bool). bit_of b + 2 * number_of_row v (number_row w (n / 2))) (constant_value v truth (n % 2 == 1))
    ∙ ap (λ m. bit_of (n % 2 == 1) + 2 * m) (number_number_row v truth w (n / 2))
    ∙ sym (mod_step (bit_of (n % 2 == 1)) (n / 2) w (bit_small (n % 2 == 1)))
    ∙ ap (λ m. m % 2 ^ suc w) (low_bit n)
