-- The magnitude of a term widened by its sign is that of the narrower term, widened by zeros.
use Rattle.std.proofs.Common.{◌≡◌, ◌∙◌, ◌<◌, ℕ, ◌+◌, ◌-◌, true, false, List, Some, None, ap, sym, arith}
use Rattle.std.specs.List.{All}
use Rattle.std.specs.Prelude.{Option}
use Rattle.bv_dag.specs.BitVectors.{BitVector, bvneg, extract, ite, sign_extend, zero_extend}
use Rattle.bv_dag.specs.Graphs.{Graph, val, width_of}
use Rattle.term_trees.specs.Trees.{Tree, Widened, tree_of, tree_width, tree_value, IsTerm, IsOfWidth}
use Rattle.term_trees.proofs.Ranges.{in_range}
use Rattle.term_trees.proofs.TreeLaws.{value-tree_of, width-tree_of}
use Rattle.term_simplify.specs.Machine.{magnitude_by, magnitude_tree, sign_tree, signed_tree}
use Rattle.term_simplify.specs.Plain.{extension_by}
use Rattle.term_simplify.specs.Plans.{under_signs}
use Rattle.term_simplify.specs.Simplified.{choice_of, negative_of}
use Rattle.term_simplify.specs.Steps.{Stands, magnitude_word, sign_word}
use Rattle.term_simplify.proofs.SignedFits.{magnitude_widened, same_top}
use Rattle.term_simplify.proofs.Stepping.{Stands-worth, at_tree, at_width, extend_step}

value_under : (input : List ℕ) (t u : Tree) → Some u ≡ under_signs t → tree_width t ≡ 32 →
    tree_value input t ≡ sign_extend (32 - tree_width u) (tree_value input u)
value_under input (Widened by true t) u e wide =
    let same : t ≡ u = cc in
    let width : by ≡ 32 - tree_width u = omega (arith, wide, ap tree_width same) in
    ap (λ k. sign_extend k (tree_value input t)) width ∙ ap (λ k. sign_extend (32 - tree_width u) (tree_value input k)) same
value_under input (Widened by false t) u e wide = cc
value_under input t u e wide = cc

module _ (g : Graph) (a k : ℕ) (under : Some (tree_of g k) ≡ under_signs (tree_of g a)) (wide : width_of g a ≡ 32) (fewer : width_of g k < 32)
    (term : IsTerm g.inputs (tree_of g k)) (input : List ℕ) (bytes : All (λ b. b < 256) input) where
  narrow : IsOfWidth (width_of g k) (val g k input)
  narrow = rw (← value-tree_of g k input, ← width-tree_of g k) (in_range g.inputs input bytes (tree_of g k) term)

  whole : val g a input ≡ sign_extend (32 - width_of g k) (val g k input)
  whole =
      sym (value-tree_of g a input) ∙ value_under input (tree_of g a) (tree_of g k) under (width-tree_of g a ∙ wide)
      ∙ ap (λ (v : BitVector). sign_extend (32 - tree_width (tree_of g k)) v) (value-tree_of g k input)
      ∙ ap (λ j. sign_extend (32 - j) (val g k input)) (width-tree_of g k)

  top : sign_word (val g a input) ≡ extract (width_of g k - 1) (width_of g k - 1) (val g k input)
  top =
      ap (λ (v : BitVector). extract 31 31 v) whole
      ∙ ap (λ j. extract j j (sign_extend (32 - width_of g k) (val g k input))) (omega (arith, fewer))
      ∙ same_top (width_of g k) (32 - width_of g k) (val g k input) narrow

  pub magnitude_worth : (s : BitVector) → s ≡ sign_word (val g a input) →
      zero_extend (32 - width_of g k) (ite s (bvneg (val g k input)) (val g k input)) ≡ magnitude_word (val g a input)
  magnitude_worth s e =
      magnitude_widened (width_of g k) (32 - width_of g k) (val g k input) narrow s (e ∙ top)
      ∙ ap (λ (v : BitVector). ite s (bvneg v) v) (sym whole)
      ∙ ap (λ (b : BitVector). ite b (bvneg (val g a input)) (val g a input)) e

-- ---- which tree it is
as_under : (t u s : Tree) (o : Option Tree) → s ≡ sign_tree t → Some u ≡ o →
    extension_by (32 - tree_width u) false (choice_of s (negative_of u) u) ≡ magnitude_by o t
as_under t u s (Some x) e f =
    let same : u ≡ x = cc in
    ap (λ k. extension_by (32 - tree_width u) false (choice_of k (negative_of u) u)) e
    ∙ ap (λ k. extension_by (32 - tree_width k) false (choice_of (sign_tree t) (negative_of k) k)) same
as_under t u s None e f = cc

pub under_none : (t s : Tree) (o : Option Tree) → s ≡ sign_tree t → None ≡ o → signed_tree s t ≡ magnitude_by o t
under_none t s None e f = ap (λ k. signed_tree k t) e
under_none t s (Some x) e f = cc

pub as_narrow : (g h : Graph) (negative a k id : ℕ) → Some (tree_of g k) ≡ under_signs (tree_of g a) → width_of g a ≡ 32 → width_of g k < 32 →
    IsTerm g.inputs (tree_of g k) → Stands g negative (sign_tree (tree_of g a)) 1 (λ input. sign_word (val g a input)) →
    Stands h id (extension_by (32 - width_of g k) false (choice_of (tree_of g negative) (negative_of (tree_of g k)) (tree_of g k))) 32
    (λ input. zero_extend (32 - width_of g k) (ite (val g negative input) (bvneg (val g k input)) (val g k input))) →
    Stands h id (magnitude_tree (tree_of g a)) 32 (λ input. magnitude_word (val g a input))
as_narrow g h negative a k id under wide fewer term sign made =
    at_tree (ap (λ j. extension_by (32 - j) false (choice_of (tree_of g negative) (negative_of (tree_of g k)) (tree_of g k))) (sym (width-tree_of g k))
    ∙ as_under (tree_of g a) (tree_of g k) (tree_of g negative) _ sign.tree under)
    (Stands-worth (λ input bytes. magnitude_worth g a k under wide fewer term input bytes (val g negative input) (sign.value input bytes)) made)

-- the sign of a term that stands in a graph
pub sign_after : {h : Graph} {a id w : ℕ} {t : Tree} {F : List ℕ → BitVector} → Stands h a t w F → Stands h id (sign_tree t) 1 (λ input. sign_word (F input)) →
    Stands h id (sign_tree (tree_of h a)) 1 (λ input. sign_word (val h a input))
sign_after whole sign = at_tree (ap sign_tree (sym whole.tree)) (Stands-worth (λ input bytes. ap sign_word (sym (whole.value input bytes))) sign)

-- a narrower term, widened to 32 bits
pub widened_to_32 : (g : Graph) {h more : Graph} {k id : ℕ} {made : Tree} {F : List ℕ → BitVector} (a narrow : ℕ) → narrow ≡ width_of g a →
    width_of g a < 32 → Stands h k made (width_of g a) F →
    Stands more id (extension_by (32 - narrow) false (tree_of h k)) (width_of h k + (32 - narrow)) (λ input. zero_extend (32 - narrow) (val h k input)) →
    Stands more id (extension_by (32 - width_of g a) false made) 32 (λ input. zero_extend (32 - width_of g a) (F input))
widened_to_32 g a narrow e fewer core last = rw (← e) (at_width (omega (arith, e, fewer)) (extend_step (32 - narrow) false core last))
