-- Sums of a graph with their numbers last, as the code finds and makes them.
use Rattle.std.proofs.Common.{◌≡◌, ◌∙◌, ℕ, ◌+◌, ◌<◌, Bool, true, false, List, [], Some, None, refl, ap, sym, subst, arith}
use Rattle.std.specs.Prelude.{Option}
use Rattle.std.specs.List.{All, slice_get}
use Rattle.bv_dag.specs.BitVectors.{BitVector}
use Rattle.bv_dag.specs.Graphs.{Graph, IsDag, val, width_of}
use Rattle.bv_dag.specs.Nodes.{binary}
use Rattle.bv_dag.specs.declared.nodes.BinaryOp.{BinaryOp}
use Rattle.bv_dag.specs.declared.nodes.Node.{Node}
use Rattle.bv_dag.specs.declared.nodes.Node.TheVariants.{Num, Input, Not, Neg, Binary, Compare, Ite, Extract, Extend, Concat}
use Rattle.term_trees.specs.Growth.{Continues}
use Rattle.term_trees.specs.Trees.{Tree, Two, IsTerm, tree_of, tree_value, tree_width, node_tree}
use Rattle.term_trees.proofs.TreeLaws.{tree-grown, tree_by_cases, value-tree_of, width-grown, width-tree_of}
use Rattle.term_simplify.specs.Narrowing.{reach_of}
use Rattle.term_simplify.specs.Offsets.{Offset, offset_word, sum_of, wide_offset_of}
use Rattle.term_simplify.specs.Pairs.{IsWidePair, Pair, beside, has_number, is_shorter, numbered_of, pair_at, pair_from, pair_of}
use Rattle.term_simplify.specs.Plain.{further}
use Rattle.term_simplify.specs.Simplified.{made_of, paired, paired_if, summed}
use Rattle.term_simplify.specs.Steps.{Stands}
use Rattle.term_simplify.specs.WideSums.{IsWideSummand, wide_term}
use Rattle.term_simplify.specs.declared.narrowing.Reach.{Reach}
use Rattle.term_simplify.specs.declared.pairs.WidePair.{WidePair}
use Rattle.term_simplify.specs.declared.wide_sums.WideSummand.{WideSummand}
use Rattle.term_simplify.proofs.PairRules.{reads_pair}
use Rattle.term_simplify.proofs.Stepping.{Stands-worth, at_tree, at_width, there_still}

plain_read : (f : ℕ → Tree) (n : Node) → ((a : ℕ) → n ≡ Not a → ⊥) → ((a : ℕ) → n ≡ Neg a → ⊥) → wide_offset_of (node_tree f n) ≡ numbered_of (node_tree f n)
plain_read f (Not a) x y = absurd (x a refl)
plain_read f (Neg a) x y = absurd (y a refl)
plain_read f (Num w v) x y = refl
plain_read f (Input i) x y = refl
plain_read f (Binary op a b) x y = refl
plain_read f (Compare op a b) x y = refl
plain_read f (Ite c a b) x y = refl
plain_read f (Extract high low a) x y = refl
plain_read f (Extend by signed a) x y = refl
plain_read f (Concat a b) x y = refl

module _ (g : Graph) (id : ℕ) (dag : IsDag g) where
  pub not_numbered : (a : ℕ) → slice_get g.nodes id ≡ Some (Not a) → None ≡ numbered_of (tree_of g id)
  not_numbered a is = ap numbered_of (sym (tree_by_cases g id (Not a) dag is))

  pub neg_numbered : (a : ℕ) → slice_get g.nodes id ≡ Some (Neg a) → None ≡ numbered_of (tree_of g id)
  neg_numbered a is = ap numbered_of (sym (tree_by_cases g id (Neg a) dag is))

  pub numbered_here : (n : Node) → slice_get g.nodes id ≡ Some n → ((a : ℕ) → n ≡ Not a → ⊥) → ((a : ℕ) → n ≡ Neg a → ⊥) →
      wide_offset_of (tree_of g id) ≡ numbered_of (tree_of g id)
  numbered_here n is x y =
      let e = tree_by_cases g id n dag is in
      ap wide_offset_of e ∙ plain_read (tree_of g) n x y ∙ ap numbered_of (sym e)

-- a term with the number 0
pub shorter_here : (g : Graph) (id sum w : ℕ) (a b : Reach) (r : Bool) → a ≡ reach_of (tree_of g id) → b ≡ reach_of (tree_of g sum) → w ≡ width_of g id →
    r ≡ is_shorter a b w → r ≡ is_shorter (reach_of (tree_of g id)) (reach_of (tree_of g sum)) (tree_width (tree_of g id))
shorter_here g id sum w a b r first second wide is =
    is ∙ ap (λ k. is_shorter k b w) first ∙ ap (λ k. is_shorter (reach_of (tree_of g id)) k w) second
    ∙ ap (is_shorter (reach_of (tree_of g id)) (reach_of (tree_of g sum))) (wide ∙ sym (width-tree_of g id))

pub none_beside : (sum t : Tree) → has_number t ≡ false → is_shorter (reach_of t) (reach_of sum) (tree_width t) ≡ false → None ≡ beside sum t
none_beside sum t h i = rw (h, i) refl

pub some_beside : (sum t : Tree) (x : BitVector) → has_number t ≡ false → is_shorter (reach_of t) (reach_of sum) (tree_width t) ≡ true →
    x ≡ record { width = tree_width t; number = 0 } → Some (record { taken = false; term = t; number = x }) ≡ beside sum t
some_beside sum t x h i e = rw (h, i, e) refl

-- the pair of two readings
pub as_pair : (op : BinaryOp) (s t : Tree) (o p : Option Offset) (r : Option Pair) → o ≡ numbered_of s → p ≡ numbered_of t →
    r ≡ pair_from op o p s t → r ≡ pair_of op s t
unfolding pair_of
as_pair op s t o p r first second is = is ∙ ap (λ k. pair_from op k p s t) first ∙ ap (λ k. pair_from op (numbered_of s) k s t) second

-- ---- what stands is what an operation is made as
no_bytes : All (λ b. b < 256) []
no_bytes = λ k d h. absurd (omega (arith, h))

-- a term that is widened in a graph that went on
module _ (g m : Graph) (w : ℕ) (o : WideSummand) (grown : Continues g m) (is : IsWideSummand g w o) where
  same_wide : width_of m o.term ≡ width_of g o.term
  same_wide = width-grown g m o.term grown is.there

  pub wide_kept : IsWideSummand m w o
  wide_kept = record {
    there = there_still g m o.term grown is.there;
    some = omega (arith, same_wide, is.some);
    wide = ap (λ k. k + o.by) same_wide ∙ is.wide;
    number = is.number;
  }

  pub wide_later : {k : Graph} {id : ℕ} → Stands k id (wide_term m o) (width_of m o.term + o.by) (λ input. tree_value input (wide_term m o)) →
      Stands k id (wide_term g o) w (λ input. tree_value input (wide_term g o))
  wide_later n =
      let same : wide_term m o ≡ wide_term g o = ap (further o.by false) (tree-grown g m o.term grown is.there) in
      at_width wide_kept.wide (at_tree same (Stands-worth (λ input bytes. ap (tree_value input) same) n))

module _ (h g : Graph) (e : h ≡ g) (op : BinaryOp) (a b : ℕ) (term : IsTerm g.inputs (Two op (tree_of g a) (tree_of g b))) where
  module _ (p : WidePair) (found : Some (pair_at h p) ≡ pair_of op (tree_of h a) (tree_of h b)) where
    here : Some (pair_at g p) ≡ pair_of op (tree_of g a) (tree_of g b)
    here = subst (λ (f : Graph). Some (pair_at f p) ≡ pair_of op (tree_of f a) (tree_of f b)) e found

    worth_here : (input : List ℕ) → All (λ b. b < 256) input →
        binary op (tree_value input (tree_of g a)) (tree_value input (tree_of g b))
        ≡ offset_word p.taken (binary p.op (tree_value input (wide_term g p.first)) (tree_value input (wide_term g p.second))) p.number
    worth_here input bytes =
        (rw (← here) at (reads_pair g.inputs input bytes op (tree_of g a) (tree_of g b) term)).worth

    pub pair_stands : IsWidePair h (width_of h a) p → {k : Graph} {id w : ℕ} → w ≡ p.number.width →
        Stands k id (paired (pair_at g p)) w (λ input. offset_word p.taken (binary p.op (tree_value input (wide_term g p.first)) (tree_value input (wide_term g p.second))) p.number) →
        Stands k id (made_of op (tree_of g a) (tree_of g b)) (width_of g a) (λ input. binary op (val g a input) (val g b input))
    pair_stands is wide n =
        let fits : IsWidePair g (width_of g a) p = subst (λ (f : Graph). IsWidePair f (width_of f a) p) e is in
        at_width (wide ∙ fits.number.width)
        (at_tree (ap (λ o. paired_if o (summed (sum_of op (tree_of g a) (tree_of g b)))) here)
        (Stands-worth (λ input bytes.
        sym (worth_here input bytes)
        ∙ ap (λ v. binary op v (tree_value input (tree_of g b))) (value-tree_of g a input)
        ∙ ap (binary op (val g a input)) (value-tree_of g b input)) n))

  pub alone_stands : None ≡ pair_of op (tree_of h a) (tree_of h b) → {k : Graph} {id w : ℕ} {F : List ℕ → BitVector} →
      Stands k id (summed (sum_of op (tree_of g a) (tree_of g b))) w F → Stands k id (made_of op (tree_of g a) (tree_of g b)) w F
  alone_stands none n =
      at_tree (ap (λ o. paired_if o (summed (sum_of op (tree_of g a) (tree_of g b))))
      (subst (λ (f : Graph). None ≡ pair_of op (tree_of f a) (tree_of f b)) e none)) n
