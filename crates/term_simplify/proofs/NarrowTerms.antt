-- Terms made of low bits: when they are, what they are worth, and that any other is as it is at its own width.
use Rattle.std.proofs.Common.{◌≡◌, ℕ, ◌<◌, Bool, true, false, List, [], Some, None, ap, sym, subst, refl, arith}
use Rattle.std.specs.Prelude.{Option, if◌then◌else◌}
use Rattle.std.specs.List.{All}
use Rattle.bv_dag.specs.BitVectors.{bvneg, bvudiv, ite}
use Rattle.bv_dag.specs.Graphs.{Graph, val, width_of}
use Rattle.bv_dag.specs.Nodes.{binary, compare}
use Rattle.bv_dag.specs.declared.nodes.BinaryOp.{BinaryOp}
use Rattle.bv_dag.specs.declared.nodes.BinaryOp.TheVariants.{Udiv}
use Rattle.bv_dag.specs.declared.nodes.Comparison.{Comparison}
use Rattle.bv_dag.specs.declared.nodes.Node.{Node}
use Rattle.bv_dag.specs.declared.nodes.Node.TheVariants.{Num, Input, Not, Neg, Binary, Compare, Ite, Extract, Extend, Concat}
use Rattle.term_trees.specs.Trees.{Tree, Negated, Two, Test, Choice, tree_of, tree_width, tree_value, IsTerm}
use Rattle.term_trees.proofs.Ranges.{in_range}
use Rattle.term_trees.proofs.TreeLaws.{value-tree_of, width-tree_of}
use Rattle.term_simplify.specs.Narrowing.{IsFewer, binary_narrowing, choice_narrowing, negative_narrowing, node_narrowing, pair_narrowing, reach_of}
use Rattle.term_simplify.specs.Simplified.{binary_at, choice_at, choice_of, comparison_at, comparison_by_low, negative_at, negative_of, undecided}
use Rattle.term_simplify.specs.Steps.{low_word, or_ones_word_at, widened_word}
use Rattle.term_simplify.specs.Times.{own}
use Rattle.term_simplify.specs.Told.{unsummed}
use Rattle.term_simplify.specs.declared.narrowing.Narrow.{Narrow}
use Rattle.term_simplify.proofs.NarrowRanges.{told}
use Rattle.term_simplify.proofs.NarrowRules.{IsMadeOf, binary_of_low, choice_of_low, negative_of_low, quotient_of_low, test_of_low}

-- ---- what a test leaves open
open_if : (b : Bool) (r : Option Narrow) (n : Narrow) → (if b then None else r) ≡ Some n → (b ≡ false) × (r ≡ Some n)
open_if false r n e = (refl, e)
open_if true r n e = cc

-- ---- trees
module _ (inputs : ℕ) (input : List ℕ) (bytes : All (λ b. b < 256) input) where
  of_negative : (t : Tree) (n : Narrow) → IsTerm inputs (Negated t) → negative_narrowing t ≡ Some n →
      IsMadeOf (tree_width t) n (widened_word (tree_width t) n (bvneg (low_word n (tree_value input t)))) (bvneg (tree_value input t))
  of_negative t n term is =
      negative_of_low (tree_width t) (reach_of t) (tree_value input t) n (in_range inputs input bytes t term)
      (in_range inputs input bytes (Negated t) term) (told inputs input bytes t term) (open_if _ _ n is).1

  of_binary : (op : BinaryOp) (s t : Tree) (n : Narrow) → IsTerm inputs (Two op s t) → binary_narrowing op s t ≡ Some n →
      IsFewer n (tree_width s) × ((op ≡ Udiv → 0 < (tree_value input t).number) →
      widened_word (tree_width s) n (binary op (low_word n (tree_value input s)) (low_word n (tree_value input t)))
      ≡ binary op (tree_value input s) (tree_value input t))
  of_binary op s t n term is =
      binary_of_low (tree_width s) (reach_of s) (reach_of t) (tree_value input s) (tree_value input t)
      (in_range inputs input bytes s term.0) (rw term.2 (in_range inputs input bytes t term.1))
      (told inputs input bytes s term.0) (rw term.2 (told inputs input bytes t term.1)) op n
      (in_range inputs input bytes (Two op s t) term) (open_if _ _ n is).1

  of_quotient : (s t : Tree) (n : Narrow) → IsTerm inputs (Two Udiv s t) → binary_narrowing Udiv s t ≡ Some n →
      or_ones_word_at (tree_width s) n (low_word n (tree_value input t))
      (widened_word (tree_width s) n (bvudiv (low_word n (tree_value input s)) (low_word n (tree_value input t))))
      ≡ bvudiv (tree_value input s) (tree_value input t)
  of_quotient s t n term is =
      quotient_of_low (tree_width s) (reach_of s) (reach_of t) (tree_value input s) (tree_value input t)
      (in_range inputs input bytes s term.0) (rw term.2 (in_range inputs input bytes t term.1))
      (told inputs input bytes s term.0) (rw term.2 (told inputs input bytes t term.1)) n
      (in_range inputs input bytes (Two Udiv s t) term) (open_if _ _ n is).1

  of_test : (op : Comparison) (s t : Tree) (n : Narrow) → IsTerm inputs (Test op s t) → pair_narrowing s t ≡ Some n →
      IsMadeOf (tree_width s) n (compare (comparison_by_low n.signed op) (low_word n (tree_value input s)) (low_word n (tree_value input t)))
      (compare op (tree_value input s) (tree_value input t))
  of_test op s t n term is =
      test_of_low (tree_width s) (reach_of s) (reach_of t) (tree_value input s) (tree_value input t)
      (in_range inputs input bytes s term.0) (rw term.2 (in_range inputs input bytes t term.1))
      (told inputs input bytes s term.0) (rw term.2 (told inputs input bytes t term.1)) op n (open_if _ _ n is).1

  of_choice : (c s t : Tree) (n : Narrow) → IsTerm inputs (Choice c s t) → choice_narrowing c s t ≡ Some n →
      IsMadeOf (tree_width s) n (widened_word (tree_width s) n (ite (tree_value input c) (low_word n (tree_value input s)) (low_word n (tree_value input t))))
      (ite (tree_value input c) (tree_value input s) (tree_value input t))
  of_choice c s t n term is =
      choice_of_low (tree_width s) (reach_of s) (reach_of t) (tree_value input s) (tree_value input t)
      (in_range inputs input bytes s term.1) (rw term.4 (in_range inputs input bytes t term.2))
      (told inputs input bytes s term.1) (rw term.4 (told inputs input bytes t term.2)) (tree_value input c) n
      (in_range inputs input bytes (Choice c s t) term) (open_if _ _ n (open_if _ _ n is).1).1

-- ---- terms of a graph
module _ (g : Graph) (n : Narrow) (input : List ℕ) (bytes : All (λ b. b < 256) input) where
  pub negative_here : (a : ℕ) → IsTerm g.inputs (Negated (tree_of g a)) → negative_narrowing (tree_of g a) ≡ Some n →
      IsMadeOf (width_of g a) n (widened_word (width_of g a) n (bvneg (low_word n (val g a input)))) (bvneg (val g a input))
  negative_here a term is = rw (← value-tree_of g a input, ← width-tree_of g a) (of_negative g.inputs input bytes (tree_of g a) n term is)

  pub binary_here : (op : BinaryOp) (a b : ℕ) → IsTerm g.inputs (Two op (tree_of g a) (tree_of g b)) → binary_narrowing op (tree_of g a) (tree_of g b) ≡ Some n →
      IsFewer n (width_of g a) × ((op ≡ Udiv → 0 < (val g b input).number) →
      widened_word (width_of g a) n (binary op (low_word n (val g a input)) (low_word n (val g b input))) ≡ binary op (val g a input) (val g b input))
  binary_here op a b term is =
      rw (← value-tree_of g a input, ← value-tree_of g b input, ← width-tree_of g a) (of_binary g.inputs input bytes op (tree_of g a) (tree_of g b) n term is)

  pub quotient_here : (a b : ℕ) → IsTerm g.inputs (Two Udiv (tree_of g a) (tree_of g b)) → binary_narrowing Udiv (tree_of g a) (tree_of g b) ≡ Some n →
      or_ones_word_at (width_of g a) n (low_word n (val g b input))
      (widened_word (width_of g a) n (bvudiv (low_word n (val g a input)) (low_word n (val g b input)))) ≡ bvudiv (val g a input) (val g b input)
  quotient_here a b term is =
      rw (← value-tree_of g a input, ← value-tree_of g b input, ← width-tree_of g a) (of_quotient g.inputs input bytes (tree_of g a) (tree_of g b) n term is)

  pub by_zero_here : (op : BinaryOp) (a b : ℕ) → op ≡ Udiv → IsTerm g.inputs (Two op (tree_of g a) (tree_of g b)) →
      binary_narrowing op (tree_of g a) (tree_of g b) ≡ Some n →
      or_ones_word_at (width_of g a) n (low_word n (val g b input))
      (widened_word (width_of g a) n (binary op (low_word n (val g a input)) (low_word n (val g b input)))) ≡ binary op (val g a input) (val g b input)
  by_zero_here op a b e =
      subst (λ k. IsTerm g.inputs (Two k (tree_of g a) (tree_of g b)) → binary_narrowing k (tree_of g a) (tree_of g b) ≡ Some n →
      or_ones_word_at (width_of g a) n (low_word n (val g b input))
      (widened_word (width_of g a) n (binary k (low_word n (val g a input)) (low_word n (val g b input)))) ≡ binary k (val g a input) (val g b input)) (sym e)
      (quotient_here a b)

  pub test_here : (op : Comparison) (a b : ℕ) → IsTerm g.inputs (Test op (tree_of g a) (tree_of g b)) → pair_narrowing (tree_of g a) (tree_of g b) ≡ Some n →
      IsMadeOf (width_of g a) n (compare (comparison_by_low n.signed op) (low_word n (val g a input)) (low_word n (val g b input)))
      (compare op (val g a input) (val g b input))
  test_here op a b term is =
      rw (← value-tree_of g a input, ← value-tree_of g b input, ← width-tree_of g a) (of_test g.inputs input bytes op (tree_of g a) (tree_of g b) n term is)

  pub choice_here : (c a b : ℕ) → IsTerm g.inputs (Choice (tree_of g c) (tree_of g a) (tree_of g b)) →
      choice_narrowing (tree_of g c) (tree_of g a) (tree_of g b) ≡ Some n →
      IsMadeOf (width_of g a) n (widened_word (width_of g a) n (ite (val g c input) (low_word n (val g a input)) (low_word n (val g b input))))
      (ite (val g c input) (val g a input) (val g b input))
  choice_here c a b term is =
      rw (← value-tree_of g c input, ← value-tree_of g a input, ← value-tree_of g b input, ← width-tree_of g a)
      (of_choice g.inputs input bytes (tree_of g c) (tree_of g a) (tree_of g b) n term is)

pub binary_fewer : (g : Graph) (n : Narrow) (op : BinaryOp) (a b : ℕ) → IsTerm g.inputs (Two op (tree_of g a) (tree_of g b)) →
    binary_narrowing op (tree_of g a) (tree_of g b) ≡ Some n → IsFewer n (width_of g a)
binary_fewer g n op a b term is = (binary_here g n [] (λ k d h. absurd (omega (arith, h))) op a b term is).0

-- ---- the tree of a node made of low bits
pub negative_is : (t : Tree) (n : Narrow) → negative_narrowing t ≡ Some n → negative_at (Some n) t ≡ negative_of t
unfolding negative_of
negative_is t n is = ap (λ k. negative_at k t) (sym is)

pub comparison_is : (op : Comparison) (s t : Tree) (n : Narrow) → pair_narrowing s t ≡ Some n → comparison_at (Some n) op s t ≡ undecided op s t
comparison_is op s t n is = ap (λ k. comparison_at k op s t) (sym is)

pub choice_is : (c s t : Tree) (n : Narrow) → choice_narrowing c s t ≡ Some n → choice_at (Some n) c s t ≡ choice_of c s t
unfolding choice_of
choice_is c s t n is = ap (λ k. choice_at k c s t) (sym is)

-- any other node is as it is at its own width
pub as_own : (f : ℕ → Tree) (node : Node) → node_narrowing f node ≡ None → own f node ≡ unsummed f node
unfolding negative_of choice_of
as_own f (Num w v) e = refl
as_own f (Input i) e = refl
as_own f (Not a) e = refl
as_own f (Neg a) e = ap (λ k. negative_at k (f a)) (sym e)
as_own f (Binary op a b) e = ap (λ k. binary_at k op (f a) (f b)) (sym e)
as_own f (Compare op a b) e = ap (λ k. comparison_at k op (f a) (f b)) (sym e)
as_own f (Ite c a b) e = ap (λ k. choice_at k (f c) (f a) (f b)) (sym e)
as_own f (Extract high low a) e = refl
as_own f (Extend by signed a) e = refl
as_own f (Concat a b) e = refl
