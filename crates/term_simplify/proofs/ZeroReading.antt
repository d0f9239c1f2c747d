-- The zeros at the low end of a term, as they are read off the nodes of a graph.
use Rattle.std.proofs.Common.{◌≡◌, ◌∙◌, ℕ, ◌+◌, Bool, true, false, cond, min, Some, None, refl, ap, arith, sym}
use Rattle.std.specs.Prelude.{Option, if◌then◌else◌}
use Rattle.std.specs.Int.{trailing_zeros, w64}
use Rattle.std.specs.List.{slice_get}
use Rattle.bv_dag.specs.Graphs.{Graph, IsDag, width_of}
use Rattle.bv_dag.specs.declared.nodes.Node.{Node}
use Rattle.bv_dag.specs.declared.nodes.Node.TheVariants.{Num, Input, Not, Neg, Binary, Compare, Ite, Extract, Extend, Concat}
use Rattle.term_trees.specs.Trees.{Tree, tree_of, node_tree, tree_width}
use Rattle.term_trees.proofs.TreeLaws.{tree_by_cases, width-tree_of}
use Rattle.term_simplify.specs.Narrowing.{is_zero}
use Rattle.term_simplify.specs.Plain.{tree_number}
use Rattle.term_simplify.specs.Zeros.{alike, common_zeros, joined_zeros, leaving_some, low_zeros}
use Rattle.term_simplify.specs.declared.zeros.Zeros.{Zeros}
use Rattle.term_simplify.proofs.Words.{tests_not_below}

unjoined : (f : ℕ → Tree) (n : Node) → ((high low : ℕ) → n ≡ Concat high low → ⊥) → 0 ≡ joined_zeros (node_tree f n)
unjoined f (Concat high low) other = absurd (other high low refl)
unjoined f (Num w v) other = refl
unjoined f (Input i) other = refl
unjoined f (Not a) other = refl
unjoined f (Neg a) other = refl
unjoined f (Binary op a b) other = refl
unjoined f (Compare op a b) other = refl
unjoined f (Ite c a b) other = refl
unjoined f (Extract high low a) other = refl
unjoined f (Extend by signed a) other = refl

plainly : (f : ℕ → Tree) (n : Node) → ((w v : ℕ) → n ≡ Num w v → ⊥) → ((by : ℕ) (signed : Bool) (a : ℕ) → n ≡ Extend by signed a → ⊥) →
    joined_zeros (node_tree f n) ≡ low_zeros (node_tree f n)
plainly f (Num w v) number widened = absurd (number w v refl)
plainly f (Extend by signed a) number widened = absurd (widened by signed a refl)
plainly f (Input i) number widened = refl
plainly f (Not a) number widened = refl
plainly f (Neg a) number widened = refl
plainly f (Binary op a b) number widened = refl
plainly f (Compare op a b) number widened = refl
plainly f (Ite c a b) number widened = refl
plainly f (Extract high low a) number widened = refl
plainly f (Concat a b) number widened = refl

module _ (g : Graph) (id : ℕ) (dag : IsDag g) where
  pub unjoined_zeros : (n : Node) → slice_get g.nodes id ≡ Some n → ((high low : ℕ) → n ≡ Concat high low → ⊥) → 0 ≡ joined_zeros (tree_of g id)
  unjoined_zeros n is other = unjoined (tree_of g) n other ∙ ap joined_zeros (sym (tree_by_cases g id n dag is))

  over : (high low : ℕ) → slice_get g.nodes id ≡ Some (Concat high low) →
      joined_zeros (tree_of g id) ≡ cond (is_zero (tree_number (tree_of g low))) (tree_width (tree_of g low)) 0
  over high low is = ap joined_zeros (tree_by_cases g id (Concat high low) dag is)

  pub zeros_below : (high low n : ℕ) → slice_get g.nodes id ≡ Some (Concat high low) → is_zero (tree_number (tree_of g low)) ≡ true →
      n ≡ width_of g low → n ≡ joined_zeros (tree_of g id)
  zeros_below high low n is zeros e = e ∙ sym (width-tree_of g low) ∙ sym (over high low is ∙ ap (λ b. cond b (tree_width (tree_of g low)) 0) zeros)

  pub none_below : (high low : ℕ) → slice_get g.nodes id ≡ Some (Concat high low) → is_zero (tree_number (tree_of g low)) ≡ false →
      0 ≡ joined_zeros (tree_of g id)
  none_below high low is none = sym (over high low is ∙ ap (λ b. cond b (tree_width (tree_of g low)) 0) none)

  pub number_zeros : (w v n : ℕ) → slice_get g.nodes id ≡ Some (Num w v) → n ≡ trailing_zeros w64 v → n ≡ low_zeros (tree_of g id)
  number_zeros w v n is e = e ∙ sym (ap low_zeros (tree_by_cases g id (Num w v) dag is))

  pub widened_zeros : (by : ℕ) (signed : Bool) (a n : ℕ) → slice_get g.nodes id ≡ Some (Extend by signed a) → n ≡ joined_zeros (tree_of g a) →
      n ≡ low_zeros (tree_of g id)
  widened_zeros by signed a n is e = e ∙ sym (ap low_zeros (tree_by_cases g id (Extend by signed a) dag is))

  pub plain_zeros : (m : Node) (n : ℕ) → slice_get g.nodes id ≡ Some m → ((w v : ℕ) → m ≡ Num w v → ⊥) →
      ((by : ℕ) (signed : Bool) (a : ℕ) → m ≡ Extend by signed a → ⊥) → n ≡ joined_zeros (tree_of g id) → n ≡ low_zeros (tree_of g id)
  plain_zeros m n is number widened e =
      e ∙ ap joined_zeros (tree_by_cases g id m dag is) ∙ plainly (tree_of g) m number widened ∙ sym (ap low_zeros (tree_by_cases g id m dag is))

-- ---- of two operands
module _ (g : Graph) (a b x y w : ℕ) (first : x ≡ low_zeros (tree_of g a)) (second : y ≡ low_zeros (tree_of g b)) (wide : w ≡ width_of g a) where
  width_read : w ≡ tree_width (tree_of g a)
  width_read = wide ∙ sym (width-tree_of g a)

  pub common_read : (z : Option Zeros) → z ≡ leaving_some w (alike (min x y)) → z ≡ common_zeros (tree_of g a) (tree_of g b)
  common_read z is =
      is ∙ ap (λ k. leaving_some k (alike (min x y))) width_read ∙ ap (λ k. leaving_some (tree_width (tree_of g a)) (alike (min k y))) first
      ∙ ap (λ k. leaving_some (tree_width (tree_of g a)) (alike (min (low_zeros (tree_of g a)) k))) second

  pub product_read : (z : Option Zeros) (test : Bool) → test ≡ false → z ≡ leaving_some w (record { first = x; second = y; result = x + y }) →
      z ≡ (if test then None
      else leaving_some (tree_width (tree_of g a))
      (record { first = low_zeros (tree_of g a); second = low_zeros (tree_of g b); result = low_zeros (tree_of g a) + low_zeros (tree_of g b) }))
  product_read z test other is = rw (other, ← first, ← second, ← width_read) is

-- ---- where the first has none
no_more : (w y : ℕ) → None ≡ leaving_some w (alike (min 0 y))
no_more w y = rw (tests_not_below 0 (min 0 y) (omega arith)) refl

pub none_common : (g : Graph) (a b x : ℕ) → x ≡ low_zeros (tree_of g a) → x ≡ 0 → None ≡ common_zeros (tree_of g a) (tree_of g b)
none_common g a b x is none = rw (← is, none) (no_more (tree_width (tree_of g a)) (low_zeros (tree_of g b)))
