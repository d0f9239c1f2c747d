-- The rules of two operands, as the plans go through them.
use Rattle.std.proofs.Common.{◌≡◌, ◌==◌, ◌⊎◌, ℕ, ◌-◌, ◌^◌, Bool, cond, refl, inl, inr}
use Rattle.std.specs.Prelude.{nat_le}
use Rattle.bv_dag.specs.BitVectors.{BitVector}
use Rattle.bv_dag.specs.Graphs.{Graph}
use Rattle.bv_dag.specs.Nodes.{Fits, widths_of}
use Rattle.bv_dag.specs.declared.nodes.BinaryOp.{BinaryOp}
use Rattle.bv_dag.specs.declared.nodes.BinaryOp.TheVariants.{Add, Sub, Mul, Udiv, Urem, And, Or, Xor, Shl, Lshr, Ashr}
use Rattle.bv_dag.specs.declared.nodes.Node.TheVariants.{Binary}
use Rattle.term_trees.specs.Trees.{Negated, Tree, Two, tree_of}
use Rattle.term_simplify.specs.Plans.{Makes}
use Rattle.term_simplify.specs.Plain.{is_ones, number_tree, number_first, number_second}
use Rattle.term_simplify.specs.declared.plan.Plan.TheVariants.{Push}

-- an operation that stays as it is
pub Makes-plain : (g : Graph) (op : BinaryOp) (a b : ℕ) →
    Fits g.inputs (widths_of g.nodes) (Binary op a b) →
    Makes g (Push (Binary op a b)) (Two op (tree_of g a) (tree_of g b))
Makes-plain g op a b fits = record { is = refl; fits = fits }

module _ (op : BinaryOp) (x : BitVector) (n : ℕ) (s t : Tree) (value : n ≡ x.number) where
  pub number_first-add : (op ≡ Add) ⊎ (op ≡ Xor) → number_first op x s t ≡ cond (n == 0) t (Two op s t)
  number_first-add is = elim is [ inl e ↦ rw (e, value) refl | inr e ↦ rw (e, value) refl ]

  pub number_first-mul : op ≡ Mul → number_first op x s t ≡ cond (n == 0) s (cond (n == 1) t (Two op s t))
  number_first-mul e = rw (e, value) refl

  pub number_first-and : (b : Bool) → b ≡ is_ones x → op ≡ And →
      number_first op x s t ≡ cond (n == 0) s (cond b t (Two op s t))
  number_first-and b f e = rw (e, f, value) refl

  pub number_first-or : (b : Bool) → b ≡ is_ones x → op ≡ Or →
      number_first op x s t ≡ cond (n == 0) t (cond b s (Two op s t))
  number_first-or b f e = rw (e, f, value) refl

  pub number_first-shift : (op ≡ Shl) ⊎ (op ≡ Lshr) ⊎ (op ≡ Ashr) →
      number_first op x s t ≡ cond (n == 0) s (Two op s t)
  number_first-shift is = elim is [
    | inl e ↦ rw (e, value) refl
    | inr is' ↦ elim is'
        [ inl e ↦ rw (e, value) refl | inr e ↦ rw (e, value) refl ]
  ]

  pub number_first-sub : op ≡ Sub → number_first op x s t ≡ cond (n == 0) (Negated t) (Two op s t)
  number_first-sub e = rw (e, value) refl

  pub number_first-plain : (op ≡ Udiv) ⊎ (op ≡ Urem) → number_first op x s t ≡ Two op s t
  number_first-plain is = elim is [ inl e ↦ rw e refl | inr e ↦ rw e refl ]

  pub number_second-add : (op ≡ Add) ⊎ (op ≡ Sub) ⊎ (op ≡ Xor) ⊎ (op ≡ Ashr) →
      number_second op x s t ≡ cond (n == 0) s (Two op s t)
  number_second-add is =
      elim is [
        | inl e ↦ rw (e, value) refl
        | inr more ↦ elim more [
          | inl e ↦ rw (e, value) refl
          | inr rest ↦ elim rest
              [ inl e ↦ rw (e, value) refl | inr e ↦ rw (e, value) refl ]
        ]
      ]

  pub number_second-mul : op ≡ Mul →
      number_second op x s t ≡ cond (n == 0) t (cond (n == 1) s (Two op s t))
  number_second-mul e = rw (e, value) refl

  pub number_second-udiv : (w : ℕ) (y : BitVector) → w ≡ x.width →
      y ≡ record { width = w; number = 2 ^ w - 1 } → op ≡ Udiv →
      number_second op x s t ≡ cond (n == 0) (number_tree y) (cond (n == 1) s (Two op s t))
  number_second-udiv w y wide f e = rw (e, f, wide, value) refl

  pub number_second-urem : (w : ℕ) (y : BitVector) → w ≡ x.width → y ≡ record { width = w; number = 0 } →
      op ≡ Urem →
      number_second op x s t ≡ cond (n == 0) s (cond (n == 1) (number_tree y) (Two op s t))
  number_second-urem w y wide f e = rw (e, f, wide, value) refl

  pub number_second-and : (b : Bool) → b ≡ is_ones x → op ≡ And →
      number_second op x s t ≡ cond (n == 0) t (cond b s (Two op s t))
  number_second-and b f e = rw (e, f, value) refl

  pub number_second-or : (b : Bool) → b ≡ is_ones x → op ≡ Or →
      number_second op x s t ≡ cond (n == 0) s (cond b t (Two op s t))
  number_second-or b f e = rw (e, f, value) refl

  pub number_second-shift : (v w : ℕ) (y : BitVector) → v ≡ x.width → w ≡ v →
      y ≡ record { width = v; number = 0 } → (op ≡ Shl) ⊎ (op ≡ Lshr) →
      number_second op x s t ≡ cond (n == 0) s (cond (nat_le w n) (number_tree y) (Two op s t))
  number_second-shift v w y wide same f is = elim is [
    | inl e ↦ rw (e, f, same, wide, value) refl
    | inr e ↦ rw (e, f, same, wide, value) refl
  ]
