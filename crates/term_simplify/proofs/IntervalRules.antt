-- A test of an interval is worth that of the sum.
use Rattle.std.proofs.Common.{◌≡◌, ◌∙◌, ◌==◌, ℕ, ◌<◌, Bool, true, false, cond, List, [], Some, None, sym, subst, refl, arith}
use Rattle.std.specs.Prelude.{Option, option_and_then}
use Rattle.std.specs.List.{All, slice_get}
use Rattle.std.specs.Option.{IfSome}
use Rattle.bv_dag.specs.BitVectors.{BitVector, bvneg, bvsub, bvult}
use Rattle.bv_dag.specs.Graphs.{Graph, IsDag}
use Rattle.bv_dag.specs.declared.nodes.BinaryOp.TheVariants.{Sub}
use Rattle.bv_dag.specs.declared.nodes.Node.{Node}
use Rattle.bv_dag.specs.declared.nodes.Node.TheVariants.{Num, Input, Not, Neg, Binary, Compare, Ite, Extract, Extend, Concat}
use Rattle.term_trees.specs.Trees.{Tree, Widened, node_tree, tree_of, tree_width, tree_value, IsTerm, IsOfWidth}
use Rattle.term_trees.proofs.Ranges.{in_range}
use Rattle.term_trees.proofs.TreeLaws.{tree_by_cases}
use Rattle.term_simplify.specs.Equalities.{Peeled, is_widened, low_bits, undone}
use Rattle.term_simplify.specs.Intervals.{Interval, IsBetween, interval_at, interval_of, interval_under, interval_word}
use Rattle.term_simplify.specs.Offsets.{IsSummand, Offset, offset_of}
use Rattle.term_simplify.specs.declared.offsets.Summand.{Summand}
use Rattle.term_simplify.proofs.IntervalNumbers.{below_widened, sum_below}
use Rattle.term_simplify.proofs.OffsetReading.{of_words}
use Rattle.term_simplify.proofs.OffsetRules.{Reads, reads}
use Rattle.term_simplify.proofs.Undoing.{neg_in, undone_worth}
use Rattle.term_simplify.proofs.Words.{is_apart, is_number}

some_same : (i j : Interval) → Some i ≡ Some j → i ≡ j
some_same i j e = cc

module _ (inputs : ℕ) (input : List ℕ) (bytes : All (λ b. b < 256) input) where
  -- as far as the sum is found
  abbrev IsTold : BitVector → BitVector → Interval → Type 0
  IsTold v y i = interval_word (tree_value input i.term) i.low i.high ≡ bvult v y

  of_sum : (w : ℕ) (v y : BitVector) (o : Offset) (taken zero : Bool) (i : Interval) → o.taken ≡ taken → (y.number == 0) ≡ zero → IsOfWidth w y →
      Reads inputs input bytes w v o → interval_at y o ≡ Some i → IsTold v y i
  of_sum w v y o true zero i e f q r is = let none : None ≡ Some i = rw e at is in cc
  of_sum w v y o false true i e f q r is = let none : None ≡ Some i = rw (e, f) at is in cc
  of_sum w v y o false false i e f q r is =
      let some = rw (e, f) at is in
      rw (← some_same _ i some, r.worth, e)
      (sum_below w (tree_value input o.term) o.number y (subst (λ k. IsOfWidth k (tree_value input o.term)) r.wide (in_range inputs input bytes o.term r.term))
      r.number q (is_apart y.number 0 f))

  of_offset : (w : ℕ) (v y : BitVector) (o : Option Offset) (i : Interval) → IsOfWidth w y → IfSome o (Reads inputs input bytes w v) →
      option_and_then (interval_at y) o ≡ Some i → IsTold v y i
  of_offset w v y (Some o) i q r is = of_sum w v y o o.taken (y.number == 0) i refl refl q r is
  of_offset w v y None i q r is = cc

  of_term : (t : Tree) (y : BitVector) (i : Interval) → IsTerm inputs t → IsOfWidth (tree_width t) y →
      interval_under (Some (record { term = t; number = y })) ≡ Some i → IsTold (tree_value input t) y i
  of_term t y i term q is = of_offset (tree_width t) (tree_value input t) y (offset_of t) i q (reads inputs input bytes t term) is

  of_test : (fits : Bool) (p : Peeled) (i : Interval) → interval_under (cond fits (Some p) None) ≡ Some i →
      (fits ≡ true) × (interval_under (Some p) ≡ Some i)
  of_test true p i is = (refl, is)
  of_test false p i is = cc

  of_widened : (by : ℕ) (signed : Bool) (t : Tree) (y : BitVector) (i : Interval) → IsTerm inputs (Widened by signed t) →
      IsOfWidth (tree_width (Widened by signed t)) y → interval_of (Widened by signed t) y ≡ Some i → IsTold (tree_value input (Widened by signed t)) y i
  of_widened by signed t y i term q is =
      let (fits, under) = of_test (is_widened by signed t y) (record { term = t; number = low_bits t y }) i is in
      let low : IsOfWidth (tree_width t) (low_bits t y) =
      (undone_worth inputs input bytes (Widened by signed t) y (record { term = t; number = low_bits t y }) term q (rw fits refl)).number in
      of_term t (low_bits t y) i term.0 low under
      ∙ below_widened (tree_width t) by signed (tree_value input t) (low_bits t y) y (in_range inputs input bytes t term.0) low (is_number _ _ fits)

  pub interval_worth : (t : Tree) (y : BitVector) (i : Interval) → IsTerm inputs t → IsOfWidth (tree_width t) y → interval_of t y ≡ Some i →
      IsTold (tree_value input t) y i
  interval_worth (Widened by signed t) y i term q is = of_widened by signed t y i term q is
  interval_worth t y i term q is = of_term t y i term q is

-- ---- as the code finds it
not_widened : (f : ℕ → Tree) (n : Node) (y : BitVector) → ((by : ℕ) (signed : Bool) (a : ℕ) → n ≡ Extend by signed a → ⊥) →
    interval_of (node_tree f n) y ≡ interval_under (Some (record { term = node_tree f n; number = y }))
not_widened f (Extend by signed a) y other = absurd (other by signed a refl)
not_widened f (Num w v) y other = refl
not_widened f (Input i) y other = refl
not_widened f (Not a) y other = refl
not_widened f (Neg a) y other = refl
not_widened f (Binary op a b) y other = refl
not_widened f (Compare op a b) y other = refl
not_widened f (Ite c a b) y other = refl
not_widened f (Extract high low a) y other = refl
not_widened f (Concat a b) y other = refl

module _ (g : Graph) (id : ℕ) (dag : IsDag g) (y : BitVector) where
  pub of_other : (n : Node) → slice_get g.nodes id ≡ Some n → ((by : ℕ) (signed : Bool) (a : ℕ) → n ≡ Extend by signed a → ⊥) →
      interval_under (Some (record { term = tree_of g id; number = y })) ≡ interval_of (tree_of g id) y
  of_other n is other = rw (tree_by_cases g id n dag is) (sym (not_widened (tree_of g) n y other))

  pub of_extend : (by : ℕ) (signed : Bool) (a : ℕ) → slice_get g.nodes id ≡ Some (Extend by signed a) →
      interval_under (undone (tree_of g id) y) ≡ interval_of (tree_of g id) y
  of_extend by signed a is = rw (tree_by_cases g id (Extend by signed a) dag is) refl

-- ---- the ends of an interval are as wide as its term
no_bytes : All (λ b. b < 256) []
no_bytes = λ k d h. absurd (omega (arith, h))

pub ends_in : (g : Graph) (o : Summand) (y low high : BitVector) → IsSummand g y.width o → IsOfWidth y.width y → low ≡ bvneg o.number →
    high ≡ bvsub y o.number → IsBetween g (record { term = o.term; low = low; high = high })
ends_in g o y low high is q e f = record {
  there = is.there;
  low = rw (is.wide, e) (neg_in [] no_bytes y.width o.number is.number);
  high = rw (is.wide, f) (of_words y.width Sub y o.number q is.number);
}
