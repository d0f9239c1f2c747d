-- Equalities of two sums with numbers, as the code finds them.
use Rattle.std.proofs.Common.{◌≡◌, ◌∙◌, ℕ, ◌<◌, List, Some, None, refl, ap, subst, sym}
use Rattle.std.specs.Prelude.{Option}
use Rattle.std.specs.List.{All}
use Rattle.bv_dag.specs.BitVectors.{bvadd, equal}
use Rattle.bv_dag.specs.Graphs.{Graph, IsDag, val, width_of}
use Rattle.bv_dag.specs.Nodes.{Fits, widths_of}
use Rattle.bv_dag.specs.declared.nodes.Comparison.TheVariants.{Eq}
use Rattle.bv_dag.specs.declared.nodes.Node.TheVariants.{Compare}
use Rattle.term_trees.specs.Trees.{Tree, tree_of, tree_value}
use Rattle.term_trees.proofs.Terms.{is_term}
use Rattle.term_trees.proofs.TreeLaws.{value-tree_of, width-tree_of}
use Rattle.term_simplify.specs.Balances.{Balance, IsWideBalance, balance_at, balance_from, balance_of}
use Rattle.term_simplify.specs.Offsets.{Offset}
use Rattle.term_simplify.specs.Pairs.{numbered_of}
use Rattle.term_simplify.specs.Plain.{tree_number}
use Rattle.term_simplify.specs.Simplified.{balanced_if, comparison_of, compared, told_by}
use Rattle.term_simplify.specs.Told.{Tells}
use Rattle.term_simplify.specs.WideSums.{wide_term}
use Rattle.term_simplify.specs.declared.balances.WideBalance.{WideBalance}
use Rattle.term_simplify.specs.declared.equalities.Told.TheVariants.{Balanced}
use Rattle.term_simplify.proofs.BalanceRules.{balance_worth}
use Rattle.term_simplify.proofs.Reading.{has_second_term, has_term}

pub as_balance : (s t : Tree) (o p : Option Offset) (r : Option Balance) → o ≡ numbered_of s → p ≡ numbered_of t → r ≡ balance_from o p → r ≡ balance_of s t
unfolding balance_of
as_balance s t o p r first second is = is ∙ ap (λ k. balance_from k p) first ∙ ap (balance_from (numbered_of s)) second

pub equal_stays_alone : (s t : Tree) → None ≡ balance_of s t → told_by Eq None None s t ≡ compared Eq s t
equal_stays_alone s t none = ap (λ k. balanced_if k (compared Eq s t)) (sym none)

module _ (g : Graph) (dag : IsDag g) (a b : ℕ) (w : WideBalance) (fits : Fits g.inputs (widths_of g.nodes) (Compare Eq a b)) (found : Some (balance_at g w) ≡ balance_of (tree_of g a) (tree_of g b)) where
  worth_here : (input : List ℕ) → All (λ b. b < 256) input →
      equal (tree_value input (wide_term g w.first)) (bvadd (tree_value input (wide_term g w.second)) w.number) ≡ equal (tree_value input (tree_of g a)) (tree_value input (tree_of g b))
  worth_here input bytes =
      rw (← found) at (balance_worth g.inputs input bytes (tree_of g a) (tree_of g b) (is_term g a dag (has_term g a fits.0)) (is_term g b dag (has_second_term g a b fits.0 fits.1))
      (width-tree_of g a ∙ fits.1 ∙ sym (width-tree_of g b)))

  pub balance_tells : tree_number (tree_of g a) ≡ None → tree_number (tree_of g b) ≡ None → IsWideBalance g (width_of g a) w →
      Tells g (Compare Eq a b) (Balanced w)
  unfolding comparison_of
  balance_tells first second is = record {
    is_told = subst (λ k. IsWideBalance g k w) (sym is.number.width) is;
    tree = rw (first, second, ← found) refl;
    bits = refl;
    worth = λ input bytes. worth_here input bytes ∙ ap (λ v. equal v (tree_value input (tree_of g b))) (value-tree_of g a input)
        ∙ ap (equal (val g a input)) (value-tree_of g b input);
  }
