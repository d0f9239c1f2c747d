-- What is added or taken away that is 0, and what is complemented or negated twice.
use Rattle.std.proofs.Common.{◌≡◌, ℕ, ◌+◌, ◌-◌, ◌*◌, ◌%◌, ◌^◌, ◌<◌, ap, sym, ◌∙◌, arith, inl, inr}
use Rattle.std.proofs.Math.Nat.{mod-eq_of_lt, mod_self, add-mul-mod_self_right}
use Rattle.std.proofs.lemmas.Bool.Decides.{eqb_tells}
use Rattle.bv_dag.specs.BitVectors.{BitVector, bvnot, bvneg, bvadd, bvsub}
use Rattle.term_trees.specs.Trees.{IsOfWidth}
use Rattle.term_simplify.proofs.Words.{by_number, by_cut, own_cut}

pub zero_plus : (w : ℕ) (x y : BitVector) → IsOfWidth w x → IsOfWidth w y → x.number ≡ 0 →
    y ≡ bvadd x y
unfolding bvadd
zero_plus w x y p q z = rw p.width (by_cut w y (x.number + y.number) q (omega (arith, z)))

pub plus_zero : (w : ℕ) (x y : BitVector) → IsOfWidth w x → IsOfWidth w y → y.number ≡ 0 →
    x ≡ bvadd x y
unfolding bvadd
plus_zero w x y p q z = own_cut w x (x.number + y.number) p (omega (arith, z))

one_whole : (a b : ℕ) → a + (b - 0) ≡ a + 1 * b
one_whole a b = omega arith

pub less_zero : (w : ℕ) (x y : BitVector) → IsOfWidth w x → IsOfWidth w y → y.number ≡ 0 →
    x ≡ bvsub x y
unfolding bvsub
less_zero w x y p q z =
    by_number x _ (sym (
    ap (λ k. (x.number + (2 ^ k - y.number)) % 2 ^ x.width) q.width ∙ ap (λ k. (x.number + (2 ^ w - y.number)) % 2 ^ k) p.width
    ∙ ap (λ k. (x.number + (2 ^ w - k)) % 2 ^ w) z ∙ ap (λ k. k % 2 ^ w) (one_whole x.number (2 ^ w))
    ∙ add-mul-mod_self_right x.number 1 (2 ^ w) ∙ mod-eq_of_lt p.in_range
    ))

none_before : (a : ℕ) → 0 + a ≡ a
none_before a = omega arith

pub zero_less : (w : ℕ) (x y : BitVector) → IsOfWidth w x → IsOfWidth w y → x.number ≡ 0 →
    bvneg y ≡ bvsub x y
unfolding bvsub bvneg
zero_less w x y p q z =
    let number : (2 ^ y.width - y.number) % 2 ^ y.width ≡ (x.number + (2 ^ y.width - y.number)) % 2 ^ x.width =
    ap (λ k. (2 ^ y.width - y.number) % 2 ^ k) q.width
    ∙ sym (ap (λ k. (x.number + (2 ^ y.width - y.number)) % 2 ^ k) p.width
    ∙ ap (λ k. (k + (2 ^ y.width - y.number)) % 2 ^ w) z
    ∙ ap (λ k. k % 2 ^ w) (none_before (2 ^ y.width - y.number))) in
    λ i. record { width = (q.width ∙ sym p.width) i; number = number i }

twice_from : (b n : ℕ) → n < b → n ≡ b - 1 - (b - 1 - n)
twice_from b n h = omega arith

pub twice_not : (w : ℕ) (x : BitVector) → IsOfWidth w x → x ≡ bvnot (bvnot x)
unfolding bvnot
twice_not w x p = by_number x _ (twice_from (2 ^ x.width) x.number (rw p.width p.in_range))

twice_less : (n b : ℕ) → n < b → (b - (b - n) % b) % b ≡ n
twice_less n b h =
    elim (eqb_tells n 0) [
      | inl z ↦
          let whole : b - n ≡ b = omega (arith, z.1) in
          let all : b - 0 ≡ b = omega arith in
          ap (λ k. (b - k % b) % b) whole ∙ ap (λ k. (b - k) % b) (mod_self b) ∙ ap (λ k. k % b) all ∙ mod_self b ∙ sym z.1
      | inr z ↦
          let some : b - n < b = omega (arith, z.1, h) in
          ap (λ k. (b - k) % b) (mod-eq_of_lt some) ∙ ap (λ k. k % b) (omega (arith, h)) ∙ mod-eq_of_lt h
    ]

pub twice_neg : (w : ℕ) (x : BitVector) → IsOfWidth w x → x ≡ bvneg (bvneg x)
unfolding bvneg
twice_neg w x p = by_number x _ (sym (twice_less x.number (2 ^ x.width) (rw p.width p.in_range)))
