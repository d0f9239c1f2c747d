-- Long division by a number of so many bits, in numbers: what a stage finds is the quotient and the remainder of the bits so far.
use Rattle.std.proofs.Common.{◌≡◌, ◌==◌, ◌∙◌, ℕ, ◌+◌, ◌-◌, ◌*◌, ◌/◌, ◌%◌, ◌^◌, ◌<◌, ◌≤◌, cond, refl, ap, sym, arith, inl, inr}
use Rattle.std.proofs.Math.Nat.{add-mod_right, div-div-eq-div-mul, div-eq_of_lt, div-one, mod-eq_of_lt}
use Rattle.std.proofs.lemmas.Nat.{div-add-mod', div-mul-add, mod-mul-add, mod_below, pow-add, pow_pos, shr_below}
use Rattle.bv_dag.specs.BitVectors.{BitVector, bvnot, bvsub, bvudiv, bvurem, concat, extract, ite, zero_extend}
use Rattle.term_simplify.specs.Divisions.{borrow_word, brought_word, less_divisor_word, next_remainder_word, upper_quotient, upper_remainder}
use Rattle.term_simplify.proofs.Truncations.{low_is}
use Rattle.term_simplify.proofs.Words.{by_parts, lt_tells, tests_unequal}

-- ---- a number and its bits
upper_bits : (n i w : ℕ) → i ≤ w → n < 2 ^ w → n / 2 ^ i < 2 ^ (w - i)
upper_bits n i w within small =
    let e : w ≡ (w - i) + i = omega (arith, within) in
    shr_below n (w - i) i (omega (arith, small, ap (λ j. 2 ^ j) e))

one_bit_more : (n i j : ℕ) → j ≡ i + 1 → n / 2 ^ i ≡ n / 2 ^ j * 2 + n / 2 ^ i % 2
one_bit_more n i j e =
    let half : n / 2 ^ j ≡ n / 2 ^ i / 2 = ap (λ k. n / 2 ^ k) e ∙ ap (λ k. n / k) (pow-add 2 i 1) ∙ sym (div-div-eq-div-mul n (2 ^ i) 2) in
    omega (arith, half)

no_quotient : (n c : ℕ) → n < c → n / c ≡ 0
no_quotient n c less = div-eq_of_lt less

-- ---- what the divisor leaves of a number below its double
module _ (c n : ℕ) (less : n < c * 2) where
  whole : c ≤ n → n ≡ 1 * c + (n - c)
  whole most = omega (arith, most)

  pub once : c ≤ n → n / c ≡ 1
  once most = ap (λ m. m / c) (whole most) ∙ div-mul-add 1 c (n - c) (omega (arith, most, less))

  pub rest : c ≤ n → n % c ≡ n - c
  rest most = ap (λ m. m % c) (whole most) ∙ mod-mul-add 1 c (n - c) (omega (arith, most, less))

-- the dividend's bits down to one more
module _ (n i j c : ℕ) (e : j ≡ i + 1) (some : 0 < c) where
  abbrev above : ℕ
  above = n / 2 ^ j

  abbrev pub brought_number : ℕ
  brought_number = above % c * 2 + n / 2 ^ i % 2

  pub brought_less : brought_number < c * 2
  brought_less = omega (arith, mod_below above c some)

  all : n / 2 ^ i ≡ (above / c * 2 + brought_number / c) * c + brought_number % c
  all =
      let upper : above / c * c + above % c ≡ above = div-add-mod' above c in
      let lower : brought_number / c * c + brought_number % c ≡ brought_number = div-add-mod' brought_number c in
      let spread : (above / c * 2 + brought_number / c) * c ≡ above / c * c * 2 + brought_number / c * c = omega arith in
      omega (arith, one_bit_more n i j e, upper, lower, spread)

  pub longer_number : n / 2 ^ i / c ≡ above / c * 2 + brought_number / c
  longer_number = ap (λ m. m / c) all ∙ div-mul-add (above / c * 2 + brought_number / c) c (brought_number % c) (mod_below brought_number c some)

  pub rest_number : n / 2 ^ i % c ≡ brought_number % c
  rest_number = ap (λ m. m % c) all ∙ mod-mul-add (above / c * 2 + brought_number / c) c (brought_number % c) (mod_below brought_number c some)

-- ---- the words of a stage
brought_is : (at k r : ℕ) (x : BitVector) →
    brought_word at x (record { width = k; number = r }) ≡ record { width = k + 1; number = r * 2 + x.number / 2 ^ at % 2 }
unfolding concat extract
brought_is at k r x =
    let one : at - at + 1 ≡ 1 = omega arith in
    ap {B = BitVector} (λ m. record { width = k + m; number = r * 2 ^ m + x.number / 2 ^ at % 2 ^ m }) one

module _ (k c n : ℕ) (fits : c ≤ 2 ^ k) (less : n < c * 2) (some : 0 < k) where
  abbrev e : BitVector
  e = record { width = k + 1; number = n }

  abbrev difference : ℕ
  difference = (n + (2 ^ (k + 1) - c)) % 2 ^ (k + 1)

  double : 2 ^ (k + 1) ≡ 2 ^ k * 2
  double = pow-add 2 k 1

  wrapped : n < c → difference ≡ 1 * 2 ^ k + (n + (2 ^ k - c))
  wrapped below =
      let small : n + (2 ^ (k + 1) - c) < 2 ^ (k + 1) = omega (arith, double, fits, below) in
      let cut : difference ≡ n + (2 ^ (k + 1) - c) = mod-eq_of_lt small in
      omega (arith, double, fits, below, cut)

  plain_difference : c ≤ n → difference ≡ n - c
  plain_difference most =
      let round : n + (2 ^ (k + 1) - c) ≡ (n - c) + 2 ^ (k + 1) = omega (arith, double, fits, most) in
      let small : n - c < 2 ^ (k + 1) = omega (arith, double, fits, less, most) in
      ap (λ m. m % 2 ^ (k + 1)) round ∙ add-mod_right (n - c) (2 ^ (k + 1)) ∙ mod-eq_of_lt small

  difference_is : less_divisor_word k c e ≡ record { width = k + 1; number = difference }
  unfolding bvsub
  difference_is = refl

  borrow_by : (b : ℕ) → difference / 2 ^ k ≡ b → b < 2 → borrow_word k c e ≡ record { width = 1; number = b }
  unfolding extract
  borrow_by b is few =
      let one : k - k + 1 ≡ 1 = omega arith in
      ap (extract k k) difference_is
      ∙ ap {B = BitVector} (λ m. record { width = m; number = difference / 2 ^ k % 2 ^ m }) one
      ∙ ap {B = BitVector} (λ m. record { width = 1; number = m }) (ap (λ m. m % 2) is ∙ mod-eq_of_lt few)

  borrowed : n < c → borrow_word k c e ≡ record { width = 1; number = 1 }
  borrowed below =
      let small : n + (2 ^ k - c) < 2 ^ k = omega (arith, fits, below) in
      borrow_by 1 (ap (λ m. m / 2 ^ k) (wrapped below) ∙ div-mul-add 1 (2 ^ k) (n + (2 ^ k - c)) small) (omega arith)

  not_borrowed : c ≤ n → borrow_word k c e ≡ record { width = 1; number = 0 }
  not_borrowed most =
      let small : n - c < 2 ^ k = omega (arith, fits, less, most) in
      borrow_by 0 (ap (λ m. m / 2 ^ k) (plain_difference most) ∙ div-eq_of_lt small) (omega arith)

  chosen : (b : ℕ) → borrow_word k c e ≡ record { width = 1; number = b } →
      next_remainder_word k c e ≡ record { width = k; number = cond (b == 1) (n % 2 ^ k) (difference % 2 ^ k) }
  unfolding ite
  chosen b is =
      rw (is, difference_is, low_is k e some, low_is k (record { width = k + 1; number = difference }) some) refl

  pub next_is : next_remainder_word k c e ≡ record { width = k; number = n % c }
  next_is =
      elim (lt_tells n c) [
        | inl p ↦
            let below : n < c = p.1 in
            let small : n < 2 ^ k = omega (arith, fits, below) in
            let kept : n % 2 ^ k ≡ n = mod-eq_of_lt small in
            let same : n % c ≡ n = mod-eq_of_lt below in
            chosen 1 (borrowed below) ∙ ap {B = BitVector} (λ m. record { width = k; number = m }) (kept ∙ sym same)
        | inr p ↦
            let most : c ≤ n = p.1 in
            let small : n - c < 2 ^ k = omega (arith, fits, less, most) in
            let kept : (n - c) % 2 ^ k ≡ n - c = mod-eq_of_lt small in
            chosen 0 (not_borrowed most) ∙ ap {B = BitVector} (λ m. record { width = k; number = m })
            (ap (λ m. m % 2 ^ k) (plain_difference most) ∙ kept ∙ sym (rest c n less most))
      ]

  pub bit_is : bvnot (borrow_word k c e) ≡ record { width = 1; number = n / c }
  unfolding bvnot
  bit_is =
      elim (lt_tells n c) [
        | inl p ↦ ap bvnot (borrowed p.1) ∙ ap {B = BitVector} (λ m. record { width = 1; number = m }) (sym (no_quotient n c p.1))
        | inr p ↦ ap bvnot (not_borrowed p.1) ∙ ap {B = BitVector} (λ m. record { width = 1; number = m }) (sym (once c n less p.1))
      ]

-- ---- a stage: one more bit of the dividend
module _ (k c i j : ℕ) (x : BitVector) (e : j ≡ i + 1) (some : 0 < k) (above : 0 < c) (fits : c ≤ 2 ^ k) where
  abbrev n : ℕ
  n = brought_number x.number i j c e above

  less : n < c * 2
  less = brought_less x.number i j c e above

  brought : brought_word i x (upper_remainder k j c x) ≡ record { width = k + 1; number = n }
  brought = brought_is i k (x.number / 2 ^ j % c) x

  pub stage_remainder : next_remainder_word k c (brought_word i x (upper_remainder k j c x)) ≡ upper_remainder k i c x
  stage_remainder =
      ap (next_remainder_word k c) brought ∙ next_is k c n fits less some
      ∙ ap {B = BitVector} (λ m. record { width = k; number = m }) (sym (rest_number x.number i j c e above))

  pub stage_quotient : (w : ℕ) → i < w →
      concat (upper_quotient w j c x) (bvnot (borrow_word k c (brought_word i x (upper_remainder k j c x)))) ≡ upper_quotient w i c x
  unfolding concat
  stage_quotient w within =
      ap (λ (y : BitVector). concat (upper_quotient w j c x) (bvnot (borrow_word k c y))) brought
      ∙ ap (concat (upper_quotient w j c x)) (bit_is k c n fits less some)
      ∙ by_parts (w - i) (x.number / 2 ^ i / c) _ (omega (arith, e, within)) (sym (longer_number x.number i j c e above))

-- ---- before the first stage and after the last
module _ (w k c : ℕ) (x : BitVector) (small : x.number < 2 ^ w) (bits : 1 < k) (within : k ≤ w) (above : 2 ^ (k - 1) ≤ c) where
  left : w - (w - k + 1) ≡ k - 1
  left = omega (arith, bits, within)

  few : x.number / 2 ^ (w - k + 1) < 2 ^ (k - 1)
  few = rw (← left) (upper_bits x.number (w - k + 1) w (omega (arith, bits, within)) small)

  small_upper : x.number / 2 ^ (w - k + 1) < c
  small_upper = omega (arith, few, above)

  pub start_remainder : zero_extend 1 (extract (w - 1) (w - k + 1) x) ≡ upper_remainder k (w - k + 1) c x
  unfolding zero_extend extract
  start_remainder =
      let wide : w - 1 - (w - k + 1) + 1 ≡ k - 1 = omega (arith, bits, within) in
      ap {B = BitVector} (λ m. record { width = m + 1; number = x.number / 2 ^ (w - k + 1) % 2 ^ m }) wide
      ∙ by_parts k (x.number / 2 ^ (w - k + 1) % c) _ (omega (arith, bits)) (mod-eq_of_lt few ∙ sym (mod-eq_of_lt small_upper))

  pub start_quotient : record { width = k - 1; number = 0 } ≡ upper_quotient w (w - k + 1) c x
  start_quotient = by_parts (w - (w - k + 1)) (x.number / 2 ^ (w - k + 1) / c) _ (sym left) (sym (no_quotient (x.number / 2 ^ (w - k + 1)) c small_upper))

module _ (w c : ℕ) (x : BitVector) (wide : x.width ≡ w) (some : 0 < c) where
  pub quotient_is : upper_quotient w 0 c x ≡ bvudiv x (record { width = w; number = c })
  unfolding bvudiv
  quotient_is =
      rw (wide, tests_unequal c 0 (λ z. omega (arith, z, some))) (by_parts w (x.number / c) (upper_quotient w 0 c x) (omega arith) (ap (λ m. m / c) (div-one x.number)))

  pub remainder_is : (k : ℕ) → k ≤ w → zero_extend (w - k) (upper_remainder k 0 c x) ≡ bvurem x (record { width = w; number = c })
  unfolding bvurem zero_extend
  remainder_is k within =
      rw (wide, tests_unequal c 0 (λ z. omega (arith, z, some)))
      (by_parts w (x.number % c) (zero_extend (w - k) (upper_remainder k 0 c x)) (omega (arith, within)) (ap (λ m. m % c) (div-one x.number)))

-- ---- by a power of two
module _ (w by c : ℕ) (x : BitVector) (wide : x.width ≡ w) (small : x.number < 2 ^ w) (some : 0 < by) (within : by < w) (is : c ≡ 2 ^ by) where
  divisor : 0 < c
  divisor = rw is (pow_pos by)

  pub power_quotient : zero_extend by (extract (w - 1) by x) ≡ bvudiv x (record { width = w; number = c })
  unfolding bvudiv zero_extend extract
  power_quotient =
      let upper : w - 1 - by + 1 ≡ w - by = omega (arith, within) in
      let few : x.number / 2 ^ by < 2 ^ (w - 1 - by + 1) = rw upper (upper_bits x.number by w (omega (arith, within)) small) in
      rw (wide, tests_unequal c 0 (λ z. omega (arith, z, divisor)))
      (by_parts w (x.number / c) (zero_extend by (extract (w - 1) by x)) (omega (arith, within)) (mod-eq_of_lt few ∙ ap (λ m. x.number / m) (sym is)))

  pub power_remainder : zero_extend (w - by) (extract (by - 1) 0 x) ≡ bvurem x (record { width = w; number = c })
  unfolding bvurem zero_extend extract
  power_remainder =
      rw (wide, tests_unequal c 0 (λ z. omega (arith, z, divisor)))
      (ap (zero_extend (w - by)) (low_is by x some)
      ∙ by_parts w (x.number % c) _ (omega (arith, within)) (ap (λ m. x.number % m) (sym is)))
