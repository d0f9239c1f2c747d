-- Runs of equal bits, and numbers joined with them.
use Rattle.std.proofs.Common.{◌≡◌, ◌==◌, ◌∙◌, ℕ, zero, suc, ◌+◌, ◌-◌, ◌/◌, ◌%◌, ◌^◌, ◌<◌, ◌≤◌, Bool, true, false, cond, bit_and, bit_or, bit_xor, refl, ap, sym, arith, inl, inr}
use Rattle.std.specs.Prelude.{nat_lt, ◌&&◌}
use Rattle.std.specs.Int.Bits.{xor_add_and}
use Rattle.std.proofs.Math.Nat.{div-one, mod-eq_of_lt}
use Rattle.std.proofs.lemmas.Bool.{and_parts, ltb-true}
use Rattle.std.proofs.lemmas.Bool.Decides.{eqb_tells}
use Rattle.std.proofs.lemmas.Nat.{and_mask, and_mod, and_shr, mod-pow-add, or_mod, or_shr, pow-add, pow_pos, shr_below, shr_split, xor_mod, xor_shr}
use Rattle.bv_dag.specs.BitVectors.{BitVector, IsBitVector, bvand, bvnot, bvor, bvxor, concat, extract}
use Rattle.bv_dag.specs.Nodes.{binary}
use Rattle.bv_dag.specs.declared.nodes.BinaryOp.{BinaryOp}
use Rattle.bv_dag.specs.declared.nodes.BinaryOp.TheVariants.{Add, Sub, Mul, Udiv, Urem, And, Or, Xor, Shl, Lshr, Ashr}
use Rattle.term_trees.specs.Trees.{Tree, Constant, IsOfWidth}
use Rattle.term_simplify.specs.Plain.{joined_of, part_of, plain_binary}
use Rattle.term_simplify.specs.Runs.{cut, is_bitwise, run, run_word, under_run}
use Rattle.term_simplify.proofs.Bits.{and_with_ones, and_zero, or_with_ones, or_zero, xor_zero}
use Rattle.term_simplify.proofs.Words.{by_parts, is_number, tests_equal, tests_unequal}

-- ---- the bits of a run
abbrev IsRun : (n r : ℕ) → Type 0
IsRun n r = n % 2 ^ r ≡ (run_word (n % 2 == 0) r).number

one_more : (n r : ℕ) → n / 2 % 2 ≡ n % 2 → IsRun (n / 2) r → IsRun n (r + 1)
one_more n r same is =
    elim (eqb_tells (n % 2) 0) [
      | inl e ↦
          let upper : n / 2 % 2 ^ r ≡ 0 = rw (tests_equal (n / 2 % 2) 0 (same ∙ e.1)) at is in
          rw e.0 (mod-pow-add n r 1 ∙ omega (arith, upper, e.1))
      | inr e ↦
          let upper : n / 2 % 2 ^ r ≡ 2 ^ r - 1 = rw (tests_unequal (n / 2 % 2) 0 (λ z. e.1 (sym same ∙ z))) at is in
          rw e.0 (mod-pow-add n r 1 ∙ omega (arith, upper, e.1, pow-add 2 r 1, pow_pos r))
    ]

one_bit : (n : ℕ) → IsRun n 1
one_bit n =
    elim (eqb_tells (n % 2) 0) [
      | inl e ↦ rw e.0 e.1
      | inr e ↦ rw e.0 (omega (arith, e.1))
    ]

chosen_run : (n : ℕ) (b : Bool) (r k : ℕ) → (b ≡ true → IsRun n r) → (b ≡ false → IsRun n k) → IsRun n (cond b r k)
chosen_run n true r k f g = f refl
chosen_run n false r k f g = g refl

pub run_is : (w n : ℕ) → 0 < w → IsRun n (run w n)
unfolding run
run_is zero n some = absurd (omega (arith, some))
run_is (suc w) n some =
    chosen_run n (nat_lt 0 w && n / 2 % 2 == n % 2) (run w (n / 2) + 1) 1
    (λ h.
    let (more, same) = and_parts (nat_lt 0 w) (n / 2 % 2 == n % 2) h in
    one_more n (run w (n / 2)) (is_number _ _ same) (run_is w (n / 2) (ltb-true 0 w more)))
    (λ _. one_bit n)

-- as the code finds it
pub run_by : (w n : ℕ) → 0 < w → run w n ≡ cond (nat_lt 0 (w - 1) && n / 2 % 2 == n % 2) (run (w - 1) (n / 2) + 1) 1
unfolding run
run_by zero n some = absurd (omega (arith, some))
run_by (suc w) n some = let e : suc w - 1 ≡ w = omega arith in rw e refl

-- ---- a cut, by how many runs may still be cut off
pub cut_none : (runs : ℕ) (op : BinaryOp) (w n : ℕ) (t : Tree) → runs ≡ 0 → plain_binary op t (Constant w n) ≡ cut runs op w n t
unfolding cut
cut_none zero op w n t e = refl
cut_none (suc k) op w n t e = absurd (omega (arith, e))

pub cut_whole : (runs : ℕ) (op : BinaryOp) (w n : ℕ) (t : Tree) → (runs ≡ 0 → ⊥) → run w n ≡ w → under_run op (n % 2 == 0) w t ≡ cut runs op w n t
unfolding cut
cut_whole zero op w n t some e = absurd (some refl)
cut_whole (suc k) op w n t some e = rw (tests_equal (run w n) w e) refl

pub cut_more : (runs : ℕ) (op : BinaryOp) (w n r : ℕ) (t : Tree) → (runs ≡ 0 → ⊥) → r ≡ run w n → (r ≡ w → ⊥) →
    joined_of (cut (runs - 1) op (w - r) (n / 2 ^ r) (part_of (w - 1) r t)) (under_run op (n % 2 == 0) r (part_of (r - 1) 0 t)) ≡ cut runs op w n t
unfolding cut
cut_more zero op w n r t some is less = absurd (some refl)
cut_more (suc k) op w n r t some is less =
    let e : suc k - 1 ≡ k = omega arith in
    rw (e, is, tests_unequal (run w n) w (λ h. less (is ∙ h))) refl

-- ---- a number joined with zeros or with ones
number_of_run : (zeros : Bool) (w : ℕ) (v : BitVector) → IsOfWidth w v → IsOfWidth w (run_word zeros w)
number_of_run true w v p = record { width = refl; not_empty = p.not_empty; at_most_64 = p.at_most_64; in_range = pow_pos w }
number_of_run false w v p = record { width = refl; not_empty = p.not_empty; at_most_64 = p.at_most_64; in_range = omega (arith, pow_pos w) }

with_ones : (w n : ℕ) → n < 2 ^ w → bit_xor n (2 ^ w - 1) ≡ 2 ^ w - 1 - n
with_ones w n h =
    let all : bit_and n (2 ^ w - 1) ≡ n = and_mask n w ∙ mod-eq_of_lt h in
    omega (arith, xor_add_and n (2 ^ w - 1), all, h)

module _ (w : ℕ) (x : BitVector) (p : IsOfWidth w x) where
  zeros : IsOfWidth w (run_word true w)
  zeros = number_of_run true w x p

  ones : IsOfWidth w (run_word false w)
  ones = number_of_run false w x p

  pub and_zeros : run_word true w ≡ bvand x (run_word true w)
  and_zeros = and_zero w x (run_word true w) p zeros refl

  pub and_ones : x ≡ bvand x (run_word false w)
  and_ones = and_with_ones w x (run_word false w) p ones refl

  pub or_zeros : x ≡ bvor x (run_word true w)
  or_zeros = or_zero w x (run_word true w) p zeros refl

  pub or_ones : run_word false w ≡ bvor x (run_word false w)
  or_ones = or_with_ones w x (run_word false w) p ones refl

  pub xor_zeros : x ≡ bvxor x (run_word true w)
  xor_zeros = xor_zero w x (run_word true w) p zeros refl

  pub xor_ones : bvnot x ≡ bvxor x (run_word false w)
  unfolding bvnot bvxor
  xor_ones = rw p.width (ap {B = BitVector} (λ k. record { width = w; number = k }) (sym (with_ones w x.number p.in_range)))

pub never : {X : Type 0} (op : BinaryOp) → is_bitwise op ≡ true → (op ≡ And → ⊥) → (op ≡ Or → ⊥) → (op ≡ Xor → ⊥) → X
never And h f g k = absurd (f refl)
never Or h f g k = absurd (g refl)
never Xor h f g k = absurd (k refl)
never Add h f g k = cc
never Sub h f g k = cc
never Mul h f g k = cc
never Udiv h f g k = cc
never Urem h f g k = cc
never Shl h f g k = cc
never Lshr h f g k = cc
never Ashr h f g k = cc

-- a number that is one run
pub one_run : (w n : ℕ) → 0 < w → run w n ≡ w → n < 2 ^ w → run_word (n % 2 == 0) w ≡ record { width = w; number = n }
one_run w n some e h =
    let is : n % 2 ^ w ≡ (run_word (n % 2 == 0) w).number = rw e at (run_is w n some) in
    elim (n % 2 == 0) as (λ b. n % 2 ^ w ≡ (run_word b w).number → run_word b w ≡ record { width = w; number = n }) [
      | true ↦ λ i. by_parts w n (run_word true w) refl (sym i ∙ mod-eq_of_lt h)
      | false ↦ λ i. by_parts w n (run_word false w) refl (sym i ∙ mod-eq_of_lt h)
    ] is

-- ---- the bits above a run, and those under it
module _ (w r n : ℕ) (x : BitVector) (p : IsOfWidth w x) (h : n < 2 ^ w) (some : 0 < r) (less : r < w) where
  upper_bits : extract (w - 1) r x ≡ record { width = w - r; number = x.number / 2 ^ r }
  unfolding extract
  upper_bits =
      let wide : w - 1 - r + 1 ≡ w - r = omega (arith, less) in
      let whole : w ≡ (w - r) + r = omega (arith, less) in
      by_parts (w - r) (x.number / 2 ^ r) _ wide
      (ap (λ k. x.number / 2 ^ r % 2 ^ k) wide ∙ mod-eq_of_lt (shr_below x.number (w - r) r (rw (← whole) p.in_range)))

  lower_bits : extract (r - 1) 0 x ≡ record { width = r; number = x.number % 2 ^ r }
  unfolding extract
  lower_bits =
      let wide : r - 1 - 0 + 1 ≡ r = omega (arith, some) in
      by_parts r (x.number % 2 ^ r) _ wide (ap (λ k. x.number / 1 % 2 ^ k) wide ∙ ap (λ k. k % 2 ^ r) (div-one x.number))

  pub upper_fits : w ≤ 64 → IsBitVector (w - r) (n / 2 ^ r)
  upper_fits most =
      let whole : w ≡ (w - r) + r = omega (arith, less) in
      record { not_empty = omega (arith, less); at_most_64 = omega (arith, most); in_range = shr_below n (w - r) r (rw (← whole) h) }

  under : n % 2 ^ r ≡ (run_word (n % 2 == 0) r).number → run_word (n % 2 == 0) r ≡ record { width = r; number = n % 2 ^ r }
  under is =
      elim (n % 2 == 0) as (λ b. n % 2 ^ r ≡ (run_word b r).number → run_word b r ≡ record { width = r; number = n % 2 ^ r }) [
        | true ↦ λ i. by_parts r (n % 2 ^ r) (run_word true r) refl (sym i)
        | false ↦ λ i. by_parts r (n % 2 ^ r) (run_word false r) refl (sym i)
      ] is

  both : (op : BinaryOp) → is_bitwise op ≡ true →
      concat (binary op (record { width = w - r; number = x.number / 2 ^ r }) (record { width = w - r; number = n / 2 ^ r }))
      (binary op (record { width = r; number = x.number % 2 ^ r }) (record { width = r; number = n % 2 ^ r })) ≡ binary op x (record { width = w; number = n })
  unfolding concat bvand bvor bvxor
  both And e = rw p.width (by_parts w _ _ (omega (arith, less)) (cc (and_shr x.number n r, and_mod x.number n r, shr_split (bit_and x.number n) r)))
  both Or e = rw p.width (by_parts w _ _ (omega (arith, less)) (cc (or_shr x.number n r, or_mod x.number n r, shr_split (bit_or x.number n) r)))
  both Xor e = rw p.width (by_parts w _ _ (omega (arith, less)) (cc (xor_shr x.number n r, xor_mod x.number n r, shr_split (bit_xor x.number n) r)))
  both Add e = cc
  both Sub e = cc
  both Mul e = cc
  both Udiv e = cc
  both Urem e = cc
  both Shl e = cc
  both Lshr e = cc
  both Ashr e = cc

  pub in_two : (op : BinaryOp) → is_bitwise op ≡ true → r ≡ run w n →
      concat (binary op (extract (w - 1) r x) (record { width = w - r; number = n / 2 ^ r })) (binary op (extract (r - 1) 0 x) (run_word (n % 2 == 0) r))
      ≡ binary op x (record { width = w; number = n })
  in_two op e is =
      let bits : n % 2 ^ r ≡ (run_word (n % 2 == 0) r).number = rw is (run_is w n (omega (arith, less))) in
      rw (upper_bits, lower_bits, under bits) (both op e)
