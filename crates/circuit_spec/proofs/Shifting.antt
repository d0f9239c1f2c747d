-- The shifts of numbers of a width.
use Rattle.std.proofs.Common.{◌≡◌, ℕ, ◌+◌, ◌-◌, ◌*◌, ◌/◌, ◌%◌, ◌^◌, ◌<◌, ◌≤◌, ap, sym, ◌∙◌, arith, add-zero, sub-add_cancel}
use Rattle.std.proofs.Math.Nat.{mul_assoc, div-one, mul-one, mul-mod_left, mod-eq_of_lt, div-eq_of_lt, div-le_self, pow-le-pow_right}
use Rattle.std.proofs.lemmas.Nat.{pow-add, shl-shr, shr-shr, mod-pow-add, mul-mod_first, pow_pos}

-- what shifts by one distance after another have in common: by the width or more, only what comes free is left
pub record IsShift (width : ℕ) (S : ℕ → ℕ → ℕ) (free : ℕ) : Type 0 where
  pub none : (n : ℕ) → n < 2 ^ width → S n 0 ≡ n
  pub more : (n i j : ℕ) → S (S n i) j ≡ S n (i + j)
  pub all : (n i : ℕ) → n < 2 ^ width → width ≤ i → S n i ≡ free

abbrev pub up : ℕ → ℕ → ℕ → ℕ
up width n i = n * 2 ^ i % 2 ^ width

abbrev pub down : ℕ → ℕ → ℕ
down n i = n / 2 ^ i

-- downwards, with ones coming free
abbrev pub down_ones : ℕ → ℕ → ℕ → ℕ
down_ones width n i = 2 ^ width - 1 - (2 ^ width - 1 - n) / 2 ^ i

multiple : (w n i : ℕ) → w ≤ i → n * 2 ^ i % 2 ^ w ≡ 0
multiple w n i far =
    ap (λ k. n * 2 ^ k % 2 ^ w) (sym (sub-add_cancel far)) ∙ ap (λ m. n * m % 2 ^ w) (pow-add 2 (i - w) w)
    ∙ ap (λ m. m % 2 ^ w) (sym (mul_assoc n (2 ^ (i - w)) (2 ^ w))) ∙ mul-mod_left (n * 2 ^ (i - w)) (2 ^ w)

up_more : (w n i j : ℕ) → up w (up w n i) j ≡ up w n (i + j)
up_more w n i j =
    mul-mod_first (n * 2 ^ i) (2 ^ j) (2 ^ w) ∙ ap (λ m. m % 2 ^ w) (mul_assoc n (2 ^ i) (2 ^ j) ∙ ap (λ m. n * m) (sym (pow-add 2 i j)))

up_none : (w n : ℕ) → n < 2 ^ w → up w n 0 ≡ n
up_none w n small = ap (λ m. m % 2 ^ w) (mul-one n) ∙ mod-eq_of_lt small

pub up_is : (w : ℕ) → IsShift w (up w) 0
up_is w = record { none = up_none w; more = up_more w; all = λ n i small far. multiple w n i far }

below_far : (w n i : ℕ) → n < 2 ^ w → w ≤ i → n < 2 ^ i
below_far w n i small far =
    let power : 2 ^ w ≤ 2 ^ i = pow-le-pow_right (omega arith) far in
    omega arith

down_all : (w n i : ℕ) → n < 2 ^ w → w ≤ i → down n i ≡ 0
down_all w n i small far = div-eq_of_lt (below_far w n i small far)

pub down_is : (w : ℕ) → IsShift w down 0
down_is w = record { none = λ n small. div-one n; more = shr-shr; all = down_all w }

inner_back : (p m : ℕ) → m ≤ p - 1 → p - 1 - (p - 1 - m) ≡ m
inner_back p m low = omega arith

down_ones_none : (w n : ℕ) → n < 2 ^ w → down_ones w n 0 ≡ n
down_ones_none w n small = ap (λ m. 2 ^ w - 1 - m) (div-one (2 ^ w - 1 - n)) ∙ inner_back (2 ^ w) n (omega arith)

inner_low : (p n q : ℕ) → q ≤ p - 1 - n → q ≤ p - 1
inner_low p n q low = omega arith

down_ones_more : (w n i j : ℕ) → down_ones w (down_ones w n i) j ≡ down_ones w n (i + j)
down_ones_more w n i j =
    let y : ℕ = 2 ^ w - 1 - n in
    ap (λ m. 2 ^ w - 1 - m / 2 ^ j) (inner_back (2 ^ w) (y / 2 ^ i) (inner_low (2 ^ w) n (y / 2 ^ i) (div-le_self y (2 ^ i))))
    ∙ ap (λ m. 2 ^ w - 1 - m) (shr-shr y i j)

pub ones_small : (p n : ℕ) → 0 < p → p - 1 - n < p
ones_small p n some = omega arith

less_none : (p : ℕ) → p - 0 ≡ p
less_none p = omega arith

down_ones_all : (w n i : ℕ) → n < 2 ^ w → w ≤ i → down_ones w n i ≡ 2 ^ w - 1
down_ones_all w n i small far =
    ap (λ m. 2 ^ w - 1 - m) (down_all w (2 ^ w - 1 - n) i (ones_small (2 ^ w) n (pow_pos w)) far) ∙ less_none (2 ^ w - 1)

pub down_ones_is : (w : ℕ) → IsShift w (down_ones w) (2 ^ w - 1)
down_ones_is w = record { none = down_ones_none w; more = down_ones_more w; all = down_ones_all w }

-- zeros below the lower places
pub up_placed : (w n i : ℕ) → i ≤ w → up w n i ≡ n % 2 ^ (w - i) * 2 ^ i
up_placed w n i within =
    ap (λ k. n * 2 ^ i % 2 ^ k) (sym (sub-add_cancel within)) ∙ mod-pow-add (n * 2 ^ i) (w - i) i
    ∙ ap (λ m. n * 2 ^ i / 2 ^ i % 2 ^ (w - i) * 2 ^ i + m) (mul-mod_left n (2 ^ i)) ∙ add-zero (n * 2 ^ i / 2 ^ i % 2 ^ (w - i) * 2 ^ i)
    ∙ ap (λ m. m % 2 ^ (w - i) * 2 ^ i) (shl-shr n i)
