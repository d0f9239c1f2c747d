-- The low bits of a bit-vector, and the operations of which the low bits are those of the operands' low bits.
use Rattle.std.proofs.Common.{◌≡◌, ◌==◌, ℕ, ◌+◌, ◌-◌, ◌*◌, ◌/◌, ◌%◌, ◌^◌, ◌<◌, ◌≤◌, true, false, cond, refl, ap, sym, ◌∙◌, arith}
use Rattle.std.proofs.Math.Nat.{add-mod, add-mod-mod, add-mul, add-mul-mod_self_right, div-add-mod, div-one, mod-eq_of_lt, mul_comm, one-mul}
use Rattle.std.proofs.Math.Pow.{mod-mod-pow}
use Rattle.std.proofs.lemmas.Nat.{and_mod, mod_below, mul-mod, or_mod, pow-add, pow_pos, shr_below, xor_mod}
use Rattle.bv_dag.specs.BitVectors.{BitVector, bvadd, bvand, bvmul, bvneg, bvor, bvsub, bvxor, extract, ite}
use Rattle.bv_dag.proofs.Numbers.{wider}
use Rattle.term_trees.specs.Trees.{IsOfWidth}
use Rattle.term_simplify.proofs.Words.{by_parts}

-- ---- the low n bits of a bit-vector are its number modulo 2 ^ n
low_width : (n : ℕ) → 0 < n → n - 1 - 0 + 1 ≡ n
low_width n some = omega arith

pub low_is : (n : ℕ) (x : BitVector) → 0 < n → extract (n - 1) 0 x ≡ record { width = n; number = x.number % 2 ^ n }
unfolding extract
low_is n x some =
    by_parts n (x.number % 2 ^ n) (extract (n - 1) 0 x) (low_width n some)
    (ap (λ k. x.number / 2 ^ 0 % 2 ^ k) (low_width n some) ∙ ap (λ m. m % 2 ^ n) (div-one x.number))

-- a number of a bits is all there
small_cut : (n a m : ℕ) → m < 2 ^ a → a ≤ n → m % 2 ^ n ≡ m
small_cut n a m few fits = mod-eq_of_lt (omega (arith, few, wider a n fits))

pub low_small : (n a : ℕ) (x : BitVector) → x.number < 2 ^ a → a ≤ n → 0 < n → extract (n - 1) 0 x ≡ record { width = n; number = x.number }
low_small n a x few fits some = low_is n x some ∙ ap {B = BitVector} (λ m. record { width = n; number = m }) (small_cut n a x.number few fits)

pub low_fits : (n : ℕ) (x : BitVector) → 0 < n → n ≤ 64 → IsOfWidth n (extract (n - 1) 0 x)
low_fits n x some fits =
    rw (low_is n x some) (record { width = refl; not_empty = some; at_most_64 = fits; in_range = mod_below x.number (2 ^ n) (pow_pos n) })

-- ---- an operation modulo 2 ^ w and then modulo 2 ^ n
pub cut_again : (w n m : ℕ) → n ≤ w → m % 2 ^ w % 2 ^ n ≡ m % 2 ^ n
cut_again w n m fits =
    let e : w ≡ (w - n) + n = omega (arith, fits) in
    ap (λ k. m % 2 ^ k % 2 ^ n) e ∙ mod-mod-pow m (w - n) n

-- where an operation's number, cut, is what it makes of the numbers that are cut first
by_low : (n m : ℕ) (op : BitVector → BitVector → BitVector) (x y : BitVector) → 0 < n →
    op (record { width = n; number = x.number % 2 ^ n }) (record { width = n; number = y.number % 2 ^ n }) ≡ record { width = n; number = m } →
    (op x y).number % 2 ^ n ≡ m → extract (n - 1) 0 (op x y) ≡ op (extract (n - 1) 0 x) (extract (n - 1) 0 y)
by_low n m op x y some is e =
    low_is n (op x y) some ∙ ap {B = BitVector} (λ k. record { width = n; number = k }) e ∙ sym (rw (low_is n x some, low_is n y some) is)

-- a power less a number: the lower one less the number's rest, and so many whole ones
less_whole : (w n m : ℕ) → n ≤ w → m < 2 ^ w → 2 ^ w - m ≡ (2 ^ n - m % 2 ^ n) + (2 ^ (w - n) - 1 - m / 2 ^ n) * 2 ^ n
less_whole w n m fits small =
    let upper = m / 2 ^ n in
    let rest = m % 2 ^ n in
    let k = 2 ^ (w - n) - 1 - upper in
    let width : w ≡ (w - n) + n = omega (arith, fits) in
    let power : 2 ^ w ≡ 2 ^ ((w - n) + n) = ap (λ j. 2 ^ j) width in
    let few : upper < 2 ^ (w - n) = shr_below m (w - n) n (omega (arith, small, power)) in
    let less : rest < 2 ^ n = mod_below m (2 ^ n) (pow_pos n) in
    let whole : upper * 2 ^ n + rest ≡ m = ap (λ j. j + rest) (mul_comm upper (2 ^ n)) ∙ div-add-mod m (2 ^ n) in
    let all : 2 ^ (w - n) ≡ (k + 1) + upper = omega (arith, few) in
    let product : 2 ^ w ≡ (k * 2 ^ n + 2 ^ n) + upper * 2 ^ n =
    power ∙ pow-add 2 (w - n) n ∙ ap (λ j. j * 2 ^ n) all ∙ add-mul (k + 1) upper (2 ^ n)
    ∙ ap (λ j. j + upper * 2 ^ n) (add-mul k 1 (2 ^ n) ∙ ap (λ j. k * 2 ^ n + j) (one-mul (2 ^ n))) in
    omega (arith, product, whole, less)

less_cut : (w n m : ℕ) → n ≤ w → m < 2 ^ w → (2 ^ w - m) % 2 ^ n ≡ (2 ^ n - m % 2 ^ n) % 2 ^ n
less_cut w n m fits small =
    ap (λ k. k % 2 ^ n) (less_whole w n m fits small) ∙ add-mul-mod_self_right (2 ^ n - m % 2 ^ n) (2 ^ (w - n) - 1 - m / 2 ^ n) (2 ^ n)

module _ (w n : ℕ) (x y : BitVector) (wide : x.width ≡ w) (some : 0 < n) (fits : n ≤ w) where
  own : n ≤ x.width
  own = omega (arith, wide, fits)

  pub low_add : extract (n - 1) 0 (bvadd x y) ≡ bvadd (extract (n - 1) 0 x) (extract (n - 1) 0 y)
  unfolding bvadd
  low_add = by_low n _ bvadd x y some refl (cut_again x.width n (x.number + y.number) own ∙ add-mod x.number y.number (2 ^ n))

  pub low_sub : IsOfWidth w y → extract (n - 1) 0 (bvsub x y) ≡ bvsub (extract (n - 1) 0 x) (extract (n - 1) 0 y)
  unfolding bvsub
  low_sub q =
      by_low n _ bvsub x y some refl
      (cut_again x.width n _ own ∙ ap (λ k. (x.number + (2 ^ k - y.number)) % 2 ^ n) q.width
      ∙ add-mod x.number (2 ^ w - y.number) (2 ^ n) ∙ ap (λ k. (x.number % 2 ^ n + k) % 2 ^ n) (less_cut w n y.number fits q.in_range)
      ∙ add-mod-mod (x.number % 2 ^ n) (2 ^ n - y.number % 2 ^ n) (2 ^ n))

  pub low_mul : extract (n - 1) 0 (bvmul x y) ≡ bvmul (extract (n - 1) 0 x) (extract (n - 1) 0 y)
  unfolding bvmul
  low_mul = by_low n _ bvmul x y some refl (cut_again x.width n (x.number * y.number) own ∙ mul-mod x.number y.number (2 ^ n))

module _ (n : ℕ) (x y : BitVector) (some : 0 < n) where
  pub low_and : extract (n - 1) 0 (bvand x y) ≡ bvand (extract (n - 1) 0 x) (extract (n - 1) 0 y)
  unfolding bvand
  low_and = by_low n _ bvand x y some refl (and_mod x.number y.number n)

  pub low_or : extract (n - 1) 0 (bvor x y) ≡ bvor (extract (n - 1) 0 x) (extract (n - 1) 0 y)
  unfolding bvor
  low_or = by_low n _ bvor x y some refl (or_mod x.number y.number n)

  pub low_xor : extract (n - 1) 0 (bvxor x y) ≡ bvxor (extract (n - 1) 0 x) (extract (n - 1) 0 y)
  unfolding bvxor
  low_xor = by_low n _ bvxor x y some refl (xor_mod x.number y.number n)

  pub low_ite : (c : BitVector) → extract (n - 1) 0 (ite c x y) ≡ ite c (extract (n - 1) 0 x) (extract (n - 1) 0 y)
  unfolding ite
  low_ite c =
      by_low n _ (ite c) x y some refl
      (elim (c.number == 1) as (λ b. cond b x.number y.number % 2 ^ n ≡ cond b (x.number % 2 ^ n) (y.number % 2 ^ n)) [ true ↦ refl | false ↦ refl ])

-- 0 less the number
pub low_neg : (w n : ℕ) (x : BitVector) → IsOfWidth w x → 0 < n → n ≤ w → extract (n - 1) 0 (bvneg x) ≡ bvneg (extract (n - 1) 0 x)
unfolding bvneg
low_neg w n x p some fits =
    by_low n _ (λ s t. bvneg s) x x some refl
    (ap (λ k. (2 ^ k - x.number) % 2 ^ k % 2 ^ n) p.width ∙ cut_again w n (2 ^ w - x.number) fits ∙ less_cut w n x.number fits p.in_range)
