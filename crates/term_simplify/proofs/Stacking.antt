-- Further bits under others are further bits.
use Rattle.std.proofs.Common.{◌≡◌, ◌∙◌, ℕ, ◌+◌, ◌<◌, ◌≤◌, Bool, true, false, [], refl, ap, sym, arith, inl, inr}
use Rattle.std.proofs.lemmas.Bool.Decides.{eqb_tells}
use Rattle.std.proofs.lemmas.List.Elements.{All-nil}
use Rattle.bv_dag.specs.BitVectors.{zero_extend}
use Rattle.term_trees.specs.Trees.{Tree, Constant, Widened, tree_width, IsTerm, IsOfWidth}
use Rattle.term_trees.proofs.Ranges.{in_range}
use Rattle.term_simplify.specs.Plans.{stacked, under}
use Rattle.term_simplify.specs.Plain.{extension_by, further, number_tree}
use Rattle.term_simplify.specs.declared.recipe.Above.{Above}
use Rattle.term_simplify.proofs.ExtensionRules.{signs_again, zeros_again, zeros_signed}
use Rattle.term_simplify.proofs.Words.{tests_unequal}

as_bits : (inputs w v : ℕ) → IsTerm inputs (Constant w v) → IsOfWidth w (record { width = w; number = v })
as_bits inputs w v term = in_range inputs [] (All-nil (λ b. b < 256)) (Constant w v) term

under_again : (inner i b : ℕ) (fill : Bool) (t : Tree) → Widened (inner + i + b) fill t ≡ Widened (inner + (i + b)) fill t
under_again inner i b fill t = ap (λ k. Widened k fill t) (omega arith)

-- under zeros
zeros_under : (inputs i b : ℕ) (signed : Bool) (t : Tree) → IsTerm inputs t → 1 ≤ i →
    extension_by b signed (extension_by i false t) ≡ extension_by (i + b) false t
unfolding extension_by zero_extend
zeros_under inputs i b false (Constant w v) term some = ap number_tree (sym (zeros_again w i b (record { width = w; number = v })))
zeros_under inputs i b true (Constant w v) term some = ap number_tree (sym (zeros_signed w i b (record { width = w; number = v }) (as_bits inputs w v term) some))
zeros_under inputs i b signed (Widened inner false t) term some = under_again inner i b false t
zeros_under inputs i b signed (Widened inner true t) term some = refl
zeros_under inputs i b signed t term some = refl

-- under copies of the sign
signs_under : (inputs i b : ℕ) (t : Tree) → IsTerm inputs t →
    extension_by b true (extension_by i true t) ≡ extension_by (i + b) true t
unfolding extension_by
signs_under inputs i b (Constant w v) term = ap number_tree (sym (signs_again w i b (record { width = w; number = v }) (as_bits inputs w v term)))
signs_under inputs i b (Widened inner false t) term = under_again inner i b false t
signs_under inputs i b (Widened inner true t) term = under_again inner i b true t
signs_under inputs i b t term = refl

further_signs : (inputs i b : ℕ) (t : Tree) → IsTerm inputs t → further b true (further i true t) ≡ further (i + b) true t
further_signs inputs i b t term =
    elim (eqb_tells i 0) [
      | inl e ↦ rw e.0 (ap (λ k. further k true t) (omega (arith, e.1)))
      | inr e ↦ rw e.0 (elim (eqb_tells b 0) [
        | inl f ↦ rw f.0 (rw (tests_unequal (i + b) 0 (λ z. e.1 (omega (arith, z)))) (ap (λ k. extension_by k true t) (omega (arith, f.1))))
        | inr f ↦ rw f.0 (rw (tests_unequal (i + b) 0 (λ z. e.1 (omega (arith, z)))) (signs_under inputs i b t term))
      ])
    ]

further_zeros : (inputs i b : ℕ) (signed : Bool) (t : Tree) → IsTerm inputs t → 1 ≤ i →
    further b signed (further i false t) ≡ further (i + b) false t
further_zeros inputs i b signed t term some =
    rw (tests_unequal i 0 (λ z. omega (arith, z, some)), tests_unequal (i + b) 0 (λ z. omega (arith, z, some)))
    (elim (eqb_tells b 0) [
      | inl f ↦ rw f.0 (ap (λ k. extension_by k false t) (omega (arith, f.1)))
      | inr f ↦ rw f.0 (zeros_under inputs i b signed t term some)
    ])

pub under_stacked : (inputs : ℕ) (above : Above) (by : ℕ) (signed : Bool) (t : Tree) → IsTerm inputs t → (signed ≡ false → 1 ≤ by) →
    tree_width t + by + above.signs + above.zeros ≤ 64 → under above (further by signed t) ≡ under (stacked above by signed) t
under_stacked inputs above by true t term some fits =
    ap (further above.zeros false) (further_signs inputs by above.signs t term ∙ ap (λ k. further k true t) (omega arith))
under_stacked inputs above by false t term some fits =
    ap (further above.zeros false) (further_zeros inputs by above.signs true t term (some refl))
    ∙ further_zeros inputs (by + above.signs) above.zeros false t term (omega (arith, some refl))
    ∙ ap (λ k. further k false t) (omega arith)
