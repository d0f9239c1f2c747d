-- Bits joined with zeros or with ones.
use Rattle.std.proofs.Common.{◌≡◌, ℕ, ◌-◌, ◌^◌, ◌<◌, ap, sym, ◌∙◌, arith, bit_and, bit_or, bit_xor}
use Rattle.std.proofs.Math.Nat.{mod-eq_of_lt}
use Rattle.std.proofs.lemmas.Nat.{and_comm, or_comm, and_mask, or_lt, le_or_r, pow_pos}
use Rattle.std.specs.Int.Bits.{and_zero_l, and_zero_r, or_zero_l, or_zero_r, xor_zero_l, xor_zero_r}
use Rattle.bv_dag.specs.BitVectors.{BitVector, bvand, bvor, bvxor}
use Rattle.term_trees.specs.Trees.{IsOfWidth}
use Rattle.term_simplify.proofs.Words.{by_parts, by_number}

and_ones : (w n : ℕ) → n < 2 ^ w → bit_and n (2 ^ w - 1) ≡ n
and_ones w n h = and_mask n w ∙ mod-eq_of_lt h

or_ones : (w n : ℕ) → n < 2 ^ w → bit_or n (2 ^ w - 1) ≡ 2 ^ w - 1
or_ones w n h = omega (arith, le_or_r n (2 ^ w - 1), or_lt w n (2 ^ w - 1) h (omega (arith, pow_pos w)))

pub zero_and : (w : ℕ) (x y : BitVector) → IsOfWidth w x → IsOfWidth w y → x.number ≡ 0 →
    x ≡ bvand x y
unfolding bvand
zero_and w x y p q z = by_number x _ (z ∙ sym (ap (λ k. bit_and k y.number) z ∙ and_zero_l y.number))

pub and_zero : (w : ℕ) (x y : BitVector) → IsOfWidth w x → IsOfWidth w y → y.number ≡ 0 →
    y ≡ bvand x y
unfolding bvand
and_zero w x y p q z = rw p.width (by_parts w _ y q.width (z ∙ sym (ap (λ k. bit_and x.number k) z ∙ and_zero_r x.number)))

pub ones_and : (w : ℕ) (x y : BitVector) → IsOfWidth w x → IsOfWidth w y →
    x.number ≡ 2 ^ x.width - 1 → y ≡ bvand x y
unfolding bvand
ones_and w x y p q e =
    rw p.width (by_parts w _ y q.width (sym (ap (λ k. bit_and k y.number)
    (e ∙ ap (λ k. 2 ^ k - 1) p.width) ∙ and_comm (2 ^ w - 1) y.number ∙ and_ones w y.number
    q.in_range)))

pub and_with_ones : (w : ℕ) (x y : BitVector) → IsOfWidth w x → IsOfWidth w y →
    y.number ≡ 2 ^ y.width - 1 → x ≡ bvand x y
unfolding bvand
and_with_ones w x y p q e = by_number x _ (sym (ap (bit_and x.number)
    (e ∙ ap (λ k. 2 ^ k - 1) q.width) ∙ and_ones w x.number p.in_range))

pub zero_or : (w : ℕ) (x y : BitVector) → IsOfWidth w x → IsOfWidth w y → x.number ≡ 0 →
    y ≡ bvor x y
unfolding bvor
zero_or w x y p q z = rw p.width (by_parts w _ y q.width (sym (ap (λ k. bit_or k y.number) z ∙ or_zero_l y.number)))

pub or_zero : (w : ℕ) (x y : BitVector) → IsOfWidth w x → IsOfWidth w y → y.number ≡ 0 →
    x ≡ bvor x y
unfolding bvor
or_zero w x y p q z = by_number x _ (sym (ap (bit_or x.number) z ∙ or_zero_r x.number))

pub ones_or : (w : ℕ) (x y : BitVector) → IsOfWidth w x → IsOfWidth w y →
    x.number ≡ 2 ^ x.width - 1 → x ≡ bvor x y
unfolding bvor
ones_or w x y p q e =
    let full : x.number ≡ 2 ^ w - 1 = e ∙ ap (λ k. 2 ^ k - 1) p.width in
    by_number x _ (full ∙ sym (ap (λ k. bit_or k y.number) full ∙ or_comm (2 ^ w - 1) y.number ∙ or_ones w y.number q.in_range))

pub or_with_ones : (w : ℕ) (x y : BitVector) → IsOfWidth w x → IsOfWidth w y →
    y.number ≡ 2 ^ y.width - 1 → y ≡ bvor x y
unfolding bvor
or_with_ones w x y p q e =
    let full : y.number ≡ 2 ^ w - 1 = e ∙ ap (λ k. 2 ^ k - 1) q.width in
    rw p.width (by_parts w _ y q.width (full ∙ sym (ap (bit_or x.number) full ∙ or_ones w x.number p.in_range)))

pub zero_xor : (w : ℕ) (x y : BitVector) → IsOfWidth w x → IsOfWidth w y → x.number ≡ 0 →
    y ≡ bvxor x y
unfolding bvxor
zero_xor w x y p q z = rw p.width (by_parts w _ y q.width (sym (ap (λ k. bit_xor k y.number) z ∙ xor_zero_l y.number)))

pub xor_zero : (w : ℕ) (x y : BitVector) → IsOfWidth w x → IsOfWidth w y → y.number ≡ 0 →
    x ≡ bvxor x y
unfolding bvxor
xor_zero w x y p q z = by_number x _ (sym (ap (bit_xor x.number) z ∙ xor_zero_r x.number))
