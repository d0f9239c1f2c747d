-- The ends of a term with sign, and what they tell, as they are read off the nodes of a graph.
use Rattle.std.proofs.Common.{◌≡◌, ◌∙◌, ℕ, ◌+◌, ◌≤◌, Bool, true, false, Some, refl, ap, sym, arith}
use Rattle.std.specs.List.{slice_get}
use Rattle.bv_dag.specs.Graphs.{Graph, IsDag, width_of}
use Rattle.bv_dag.specs.declared.nodes.Comparison.{Comparison}
use Rattle.bv_dag.specs.declared.nodes.Comparison.TheVariants.{Ult, Slt, Eq}
use Rattle.bv_dag.specs.declared.nodes.Node.{Node}
use Rattle.bv_dag.specs.declared.nodes.Node.TheVariants.{Num, Input, Not, Neg, Binary, Compare, Ite, Extract, Extend, Concat}
use Rattle.term_trees.specs.Trees.{Tree, node_tree, tree_of}
use Rattle.term_trees.proofs.TreeLaws.{tree_by_cases, width-tree_of}
use Rattle.term_simplify.specs.Ends.{AreEnds, by_sign, comparison_told, ends_of, equality_told, order_told, signed_ends_of, widened_ends}
use Rattle.term_simplify.specs.declared.ends.Ends.{Ends}
use Rattle.term_simplify.proofs.Reading.{term_at}

no_widened : (f : ℕ → Tree) (n : Node) → ((by : ℕ) (signed : Bool) (a : ℕ) → n ≡ Extend by signed a → ⊥) →
    by_sign (ends_of (node_tree f n)) ≡ signed_ends_of (node_tree f n)
unfolding signed_ends_of
no_widened f (Extend by signed a) other = absurd (other by signed a refl)
no_widened f (Num w v) other = refl
no_widened f (Input i) other = refl
no_widened f (Not a) other = refl
no_widened f (Neg a) other = refl
no_widened f (Binary op a b) other = refl
no_widened f (Compare op a b) other = refl
no_widened f (Ite c a b) other = refl
no_widened f (Extract high low a) other = refl
no_widened f (Concat a b) other = refl

module _ (g : Graph) (id : ℕ) (dag : IsDag g) where
  pub widened_fits : (by : ℕ) (signed : Bool) (a : ℕ) → slice_get g.nodes id ≡ Some (Extend by signed a) → width_of g a + by ≤ 64
  widened_fits by signed a is = omega (arith, (term_at g id (Extend by signed a) dag is).2, width-tree_of g a)

  -- with sign
  pub of_signs : (by : ℕ) (signed : Bool) (a : ℕ) → slice_get g.nodes id ≡ Some (Extend by signed a) → signed ≡ true →
      widened_ends by true (by_sign (ends_of (tree_of g a))) ≡ signed_ends_of (tree_of g id)
  unfolding signed_ends_of
  of_signs by true a is e = sym (ap signed_ends_of (tree_by_cases g id (Extend by true a) dag is))
  of_signs by false a is e = cc

  pub of_zeros : (by : ℕ) (signed : Bool) (a : ℕ) → slice_get g.nodes id ≡ Some (Extend by signed a) → signed ≡ false →
      by_sign (ends_of (tree_of g id)) ≡ signed_ends_of (tree_of g id)
  unfolding signed_ends_of
  of_zeros by false a is e =
      ap (λ t. by_sign (ends_of t)) (tree_by_cases g id (Extend by false a) dag is) ∙ sym (ap signed_ends_of (tree_by_cases g id (Extend by false a) dag is))
  of_zeros by true a is e = cc

  pub of_no_widened : (n : Node) → slice_get g.nodes id ≡ Some n → ((by : ℕ) (signed : Bool) (a : ℕ) → n ≡ Extend by signed a → ⊥) →
      by_sign (ends_of (tree_of g id)) ≡ signed_ends_of (tree_of g id)
  of_no_widened n is other =
      ap (λ t. by_sign (ends_of t)) (tree_by_cases g id n dag is) ∙ no_widened (tree_of g) n other ∙ sym (ap signed_ends_of (tree_by_cases g id n dag is))

-- ---- a comparison
pub ult_here : (op : Comparison) (s t : Tree) (a b : Ends) → op ≡ Ult → a ≡ ends_of s → b ≡ ends_of t → order_told op a b ≡ comparison_told op s t
unfolding comparison_told
ult_here Ult s t a b e p q = ap (λ (x : Ends). order_told Ult x b) p ∙ ap (order_told Ult (ends_of s)) q
ult_here Slt s t a b e p q = cc
ult_here Eq s t a b e p q = cc

pub slt_here : (op : Comparison) (s t : Tree) (a b : Ends) → op ≡ Slt → a ≡ signed_ends_of s → b ≡ signed_ends_of t →
    order_told op a b ≡ comparison_told op s t
unfolding comparison_told
slt_here Slt s t a b e p q = ap (λ (x : Ends). order_told Slt x b) p ∙ ap (order_told Slt (signed_ends_of s)) q
slt_here Ult s t a b e p q = cc
slt_here Eq s t a b e p q = cc

pub equal_here : (op : Comparison) (s t : Tree) → op ≡ Eq → equality_told s t ≡ comparison_told op s t
unfolding comparison_told
equal_here Eq s t e = refl
equal_here Ult s t e = cc
equal_here Slt s t e = cc

-- ends of two terms of one width
pub alike : (v w : ℕ) (a b : Ends) → AreEnds v a → AreEnds w b → v ≡ w → AreEnds a.least.width b
alike v w a b p q e = record { least = q.least ∙ sym e ∙ sym p.least; greatest = q.greatest ∙ sym e ∙ sym p.least }
