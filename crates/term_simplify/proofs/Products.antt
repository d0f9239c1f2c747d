-- Products, quotients and remainders of which one number is 0 or 1.
use Rattle.std.proofs.Common.{◌≡◌, ℕ, ◌-◌, ◌*◌, ◌^◌, refl, ap, sym, ◌∙◌, arith}
use Rattle.std.proofs.Math.Nat.{div-one, mod-one}
use Rattle.bv_dag.specs.BitVectors.{BitVector, bvmul, bvudiv, bvurem}
use Rattle.term_trees.specs.Trees.{IsOfWidth}
use Rattle.term_simplify.proofs.Words.{by_parts, by_cut, own_cut}

pub zero_times : (w : ℕ) (x y : BitVector) → IsOfWidth w x → IsOfWidth w y → x.number ≡ 0 →
    x ≡ bvmul x y
unfolding bvmul
zero_times w x y p q z = own_cut w x (x.number * y.number) p (ap (λ k. k * y.number) z ∙ (omega (arith, z)))

pub one_times : (w : ℕ) (x y : BitVector) → IsOfWidth w x → IsOfWidth w y → x.number ≡ 1 →
    y ≡ bvmul x y
unfolding bvmul
one_times w x y p q e = rw p.width (by_cut w y (x.number * y.number) q (ap (λ k. k * y.number) e ∙ (omega arith)))

pub times_zero : (w : ℕ) (x y : BitVector) → IsOfWidth w x → IsOfWidth w y → y.number ≡ 0 →
    y ≡ bvmul x y
unfolding bvmul
times_zero w x y p q z = rw p.width (by_cut w y (x.number * y.number) q (ap (λ k. x.number * k) z ∙ (omega (arith, z))))

pub times_one : (w : ℕ) (x y : BitVector) → IsOfWidth w x → IsOfWidth w y → y.number ≡ 1 →
    x ≡ bvmul x y
unfolding bvmul
times_one w x y p q e = own_cut w x (x.number * y.number) p (ap (λ k. x.number * k) e ∙ (omega arith))

pub udiv_by_zero : (w : ℕ) (x y : BitVector) → IsOfWidth w x → IsOfWidth w y → y.number ≡ 0 →
    record { width = y.width; number = 2 ^ y.width - 1 } ≡ bvudiv x y
unfolding bvudiv
udiv_by_zero w x y p q z = rw (p.width, q.width, z) refl

pub udiv_by_one : (w : ℕ) (x y : BitVector) → IsOfWidth w x → IsOfWidth w y → y.number ≡ 1 →
    x ≡ bvudiv x y
unfolding bvudiv
udiv_by_one w x y p q e = rw e (by_parts x.width _ x refl (sym (div-one x.number)))

pub urem_by_zero : (w : ℕ) (x y : BitVector) → IsOfWidth w x → IsOfWidth w y → y.number ≡ 0 →
    x ≡ bvurem x y
unfolding bvurem
urem_by_zero w x y p q z = rw z refl

pub urem_by_one : (w : ℕ) (x y : BitVector) → IsOfWidth w x → IsOfWidth w y → y.number ≡ 1 →
    record { width = y.width; number = 0 } ≡ bvurem x y
unfolding bvurem
urem_by_one w x y p q e = rw (p.width, q.width, e) (ap {B = BitVector}
    (λ k. record { width = w; number = k }) (sym (mod-one x.number)))
