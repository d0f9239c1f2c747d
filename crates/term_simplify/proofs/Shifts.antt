-- Shifts by 0, by the width or more, and of 0.
use Rattle.std.proofs.Common.{◌≡◌, ℕ, ◌-◌, ◌*◌, ◌/◌, ◌^◌, ◌≤◌, Bool, true, false, cond, refl, ap, sym, ◌∙◌, arith}
use Rattle.std.specs.Prelude.{nat_lt}
use Rattle.std.proofs.Math.Nat.{zero-mod, zero-div, div-one}
use Rattle.std.proofs.lemmas.Nat.{pow_pos}
use Rattle.bv_dag.specs.BitVectors.{BitVector, bvnot, bvshl, bvlshr, bvashr, is_negative}
use Rattle.term_trees.specs.Trees.{IsOfWidth}
use Rattle.term_simplify.proofs.Words.{by_number, own_cut, tests_below, tests_not_below, is_at_most}
use Rattle.term_simplify.proofs.Sums.{twice_not}

chosen_zero : (b : Bool) (n : ℕ) → n ≡ 0 → cond b n 0 ≡ 0
chosen_zero true n e = e
chosen_zero false n e = refl

pub shl_by_zero : (w : ℕ) (x y : BitVector) → IsOfWidth w x → IsOfWidth w y → y.number ≡ 0 →
    x ≡ bvshl x y
unfolding bvshl
shl_by_zero w x y p q z =
    own_cut w x _ p (
    ap (λ k. cond (nat_lt k x.width) (x.number * 2 ^ k) 0) z ∙ ap (λ b. cond b (x.number * 2 ^ 0) 0)
    (tests_below 0 x.width (omega (arith, p.width, p.not_empty)))
    ∙ omega arith
    )

pub shl_by_width : (w : ℕ) (x y : BitVector) → IsOfWidth w x → IsOfWidth w y →
    y.width ≤ y.number → record { width = y.width; number = 0 } ≡ bvshl x y
unfolding bvshl
shl_by_width w x y p q h =
    rw (p.width, q.width, tests_not_below y.number w (omega (arith, h, q.width)))
    (ap {B = BitVector} (λ k. record { width = w; number = k }) (sym (zero-mod (2 ^ w))))

pub zero_shl : (w : ℕ) (x y : BitVector) → IsOfWidth w x → IsOfWidth w y → x.number ≡ 0 →
    x ≡ bvshl x y
unfolding bvshl
zero_shl w x y p q z = own_cut w x _ p (chosen_zero _ _ (ap (λ k. k * 2 ^ y.number) z ∙ (omega arith)) ∙ sym z)

pub lshr_by_zero : (w : ℕ) (x y : BitVector) → IsOfWidth w x → IsOfWidth w y → y.number ≡ 0 →
    x ≡ bvlshr x y
unfolding bvlshr
lshr_by_zero w x y p q z =
    rw (z, tests_below 0 x.width (omega (arith, p.width, p.not_empty))) (by_number x _ (sym (div-one x.number)))

pub lshr_by_width : (w : ℕ) (x y : BitVector) → IsOfWidth w x → IsOfWidth w y →
    y.width ≤ y.number → record { width = y.width; number = 0 } ≡ bvlshr x y
unfolding bvlshr
lshr_by_width w x y p q h = rw (p.width, q.width, tests_not_below y.number w (omega (arith, h, q.width))) refl

pub zero_lshr : (w : ℕ) (x y : BitVector) → IsOfWidth w x → IsOfWidth w y → x.number ≡ 0 →
    x ≡ bvlshr x y
unfolding bvlshr
zero_lshr w x y p q z = by_number x _ (z ∙ sym (chosen_zero _ _ (ap (λ k. k / 2 ^ y.number) z ∙ zero-div (2 ^ y.number))))

IsOfWidth-bvnot : (w : ℕ) (x : BitVector) → IsOfWidth w x → IsOfWidth w (bvnot x)
unfolding bvnot
IsOfWidth-bvnot w x p = record {
  width = p.width;
  not_empty = p.not_empty;
  at_most_64 =
      p.at_most_64;
  in_range = omega (arith, ap (λ k. 2 ^ k) p.width, pow_pos w);
}

pub ashr_by_zero : (w : ℕ) (x y : BitVector) → IsOfWidth w x → IsOfWidth w y →
    y.number ≡ 0 → x ≡ bvashr x y
unfolding bvashr
ashr_by_zero w x y p q z =
    elim (is_negative x) as (λ b. x ≡ cond b (bvnot (bvlshr (bvnot x) y)) (bvlshr x y)) [
      | true ↦ twice_not w x p ∙ ap bvnot (lshr_by_zero w (bvnot x) y (IsOfWidth-bvnot w x p) q z)
      | false ↦ lshr_by_zero w x y p q z
    ]

zero_positive : (w : ℕ) (x : BitVector) → x.number ≡ 0 → is_negative x ≡ false
zero_positive w x z =
    elim (is_negative x) as (λ b. (is_negative x ≡ b → b ≡ false)) [
      | true ↦ λ h. absurd (omega (arith, is_at_most _ _ h, pow_pos (x.width - 1), z))
      | false ↦ λ h. refl
    ] refl

pub zero_ashr : (w : ℕ) (x y : BitVector) → IsOfWidth w x → IsOfWidth w y → x.number ≡ 0 →
    x ≡ bvashr x y
unfolding bvashr
zero_ashr w x y p q z = rw (zero_positive x.width x z) (zero_lshr w x y p q z)
