-- Ends that are kept beside terms: they are read, one more is put behind them, and some are cut off.
use Rattle.std.proofs.Common.{◌≡◌, ◌∙◌, ℕ, ◌^◌, ◌<◌, List, [], ◌∷◌, ◌++◌, map, length, take, Some, refl, ap, sym, subst, arith}
use Rattle.std.proofs.Math.Seq.{take-append_seam}
use Rattle.std.proofs.lemmas.List.{length-map, map-append, take-map}
use Rattle.std.proofs.lemmas.Option.{slice_get-get_or, slice_get-map}
use Rattle.std.specs.List.{slice_get}
use Rattle.std.specs.Option.{option_map}
use Rattle.bv_dag.specs.BitVectors.{BitVector}
use Rattle.bv_dag.specs.Graphs.{Graph, IsDag, width_of, with_node}
use Rattle.bv_dag.specs.Nodes.{Fits, map_in_turn, widths_of}
use Rattle.bv_dag.specs.declared.nodes.Node.{Node}
use Rattle.bv_dag.proofs.Fitting.{IsDag-take}
use Rattle.bv_dag.proofs.InTurn.{map_in_turn-take}
use Rattle.bv_dag.proofs.TermLaws.{IsDag-none, IsDag-with_node}
use Rattle.term_trees.specs.Trees.{Tree, Constant, node_tree, tree_at, tree_of, tree_value, tree_width, trees}
use Rattle.term_trees.proofs.Terms.{is_term}
use Rattle.term_trees.proofs.TreeLaws.{length-trees, trees-push, width-tree_of}
use Rattle.term_simplify.specs.Ends.{AreEnds, ends_of}
use Rattle.term_simplify.specs.Kept.{AreKept, bounds_of}
use Rattle.term_simplify.specs.declared.ends.Ends.{Ends}
use Rattle.term_simplify.specs.declared.known.Bounds.{Bounds}
use Rattle.term_simplify.proofs.EndsRules.{LiesIn, lies_of}
use Rattle.term_simplify.proofs.Words.{by_parts}

-- ---- the ends of a term are bit-vectors of its width
module _ (g : Graph) (id : ℕ) (dag : IsDag g) (there : id < length g.nodes) where
  lies_here : LiesIn (tree_width (tree_of g id)) (ends_of (tree_of g id)) (tree_value [] (tree_of g id))
  lies_here = lies_of g.inputs [] (λ k d h. absurd (omega (arith, h))) (tree_of g id) (is_term g id dag there)

  pub wide_here : AreEnds (width_of g id) (ends_of (tree_of g id))
  wide_here = subst (λ k. AreEnds k (ends_of (tree_of g id))) (width-tree_of g id) lies_here.ends

  pub few_here : ((ends_of (tree_of g id)).least.number < 2 ^ width_of g id) × ((ends_of (tree_of g id)).greatest.number < 2 ^ width_of g id)
  few_here =
      let few = subst (λ k. (ends_of (tree_of g id)).greatest.number < 2 ^ k) (width-tree_of g id) lies_here.few in
      (omega (arith, lies_here.least, lies_here.greatest, few), few)

  pub ends_here : (x y : BitVector) (b : Bounds) → x ≡ record { width = width_of g id; number = b.least } →
      y ≡ record { width = width_of g id; number = b.greatest } → b ≡ bounds_of (tree_of g id) →
      record { least = x; greatest = y } ≡ ends_of (tree_of g id)
  ends_here x y b p q told =
      let e = ends_of (tree_of g id) in
      let least = p ∙ sym (by_parts (width_of g id) b.least e.least wide_here.least (sym (ap (λ (k : Bounds). k.least) told))) in
      let greatest = q ∙ sym (by_parts (width_of g id) b.greatest e.greatest wide_here.greatest (sym (ap (λ (k : Bounds). k.greatest) told))) in
      ap {B = Ends} (λ v. record { least = v; greatest = y }) least ∙ ap {B = Ends} (λ v. record { least = e.least; greatest = v }) greatest

pub length-kept : (g : Graph) (kept : List Bounds) → AreKept g kept → length kept ≡ length g.nodes
length-kept g kept is = ap length is.each ∙ length-map (trees g.nodes) bounds_of ∙ length-trees g.nodes

-- what is read
pub kept_at : (g : Graph) (kept : List Bounds) (id : ℕ) → AreKept g kept → id < length g.nodes → slice_get kept id ≡ Some (bounds_of (tree_of g id))
kept_at g kept id is there =
    ap (λ (xs : List Bounds). slice_get xs id) is.each ∙ slice_get-map bounds_of (trees g.nodes) id
    ∙ ap (option_map bounds_of) (slice_get-get_or (trees g.nodes) id (Constant 0 0) (omega (arith, there, length-trees g.nodes)))

pub bounds_same : (t : Tree) (e : Ends) (m n : ℕ) → e ≡ ends_of t → m ≡ e.least.number → n ≡ e.greatest.number →
    record { least = m; greatest = n } ≡ bounds_of t
bounds_same t e m n is p q =
    ap {B = Bounds} (λ k. record { least = k; greatest = n }) p ∙ ap {B = Bounds} (λ k. record { least = e.least.number; greatest = k }) q
    ∙ ap {B = Bounds} (λ (x : Ends). record { least = x.least.number; greatest = x.greatest.number }) is

pub some_kept : {x y : Bounds} → Some x ≡ Some y → x ≡ y
some_kept e = cc

-- ---- changes
pub kept_none : (inputs : ℕ) → AreKept (record { inputs = inputs; nodes = [] }) []
unfolding trees map_in_turn
kept_none inputs = record { dag = IsDag-none inputs; each = refl }

pub kept_more : (g : Graph) (kept : List Bounds) (n : Node) (e : Bounds) → AreKept g kept → Fits g.inputs (widths_of g.nodes) n →
    e ≡ bounds_of (node_tree (tree_of g) n) → AreKept (with_node g n) (kept ++ e ∷ [])
kept_more g kept n e is fits told = record {
  dag = IsDag-with_node g n is.dag fits;
  each = ap (λ xs. xs ++ e ∷ []) is.each ∙ ap (λ x. map bounds_of (trees g.nodes) ++ x ∷ []) told
      ∙ sym (map-append bounds_of (trees g.nodes) (node_tree (tree_of g) n ∷ []))
      ∙ ap (map bounds_of) (sym (trees-push g.nodes n));
}

pub kept_front : (g : Graph) (kept : List Bounds) (n : ℕ) → AreKept g kept → AreKept (record { inputs = g.inputs; nodes = take n g.nodes }) (take n kept)
unfolding trees
kept_front g kept n is = record {
  dag = IsDag-take g.inputs n g.nodes (take n g.nodes) is.dag refl;
  each = ap (take n) is.each ∙ take-map bounds_of n (trees g.nodes)
      ∙ ap (map bounds_of) (sym (map_in_turn-take (λ before m. node_tree (tree_at before) m) n g.nodes));
}

-- what is taken back
pub kept_again : (g : Graph) (kept : List Bounds) (e : Bounds) → AreKept g kept → take (length g.nodes) (kept ++ e ∷ []) ≡ kept
kept_again g kept e is = ap (λ k. take k (kept ++ e ∷ [])) (sym (length-kept g kept is)) ∙ take-append_seam kept (e ∷ [])
