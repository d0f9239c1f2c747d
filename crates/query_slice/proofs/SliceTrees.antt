-- A slice, unfolded: its trees are those that are reached from the new one.
use Rattle.std.proofs.Common.{◌≡◌, ◌<◌, ℕ, List, length, map, get_or, refl, sym, ap, subst, ◌∙◌, arith}
use Rattle.std.specs.Prelude.{Contains}
use Rattle.std.proofs.lemmas.List.{get_or-map, length-map}
use Rattle.std.proofs.lemmas.List.Elements.{Contains-get_or}
use Rattle.bv_dag.specs.Graphs.{Graph}
use Rattle.bv_dag.specs.Queries.{Condition}
use Rattle.term_trees.specs.Trees.{Tree, tree_of}
use Rattle.term_trees.proofs.InputLaws.{inputs-tree_of}
use Rattle.query_slice.specs.Reaching.{IsReached, SharesByte, itself, sharing}
use Rattle.query_slice.specs.Slices.{IsSlice}
use Rattle.term_trees.specs.TreeSlices.{IsReachedTree, IsSliceOfTrees, TreesShareByte, itself as new_tree, sharing as sharing_tree}
use Rattle.query_slice.proofs.Kept.{from_slice, to_slice}

mapped : (f : ℕ → Tree) (ids : List ℕ) (t : Tree) → Contains (map f ids) t → (id : ℕ) × Contains ids id × (f id ≡ t)
mapped f ids t h =
    let there : h.0 < length ids = omega (arith, h.1, length-map ids f) in
    (get_or ids h.0 0, Contains-get_or ids h.0 0 there, sym (get_or-map f ids h.0 0 t there) ∙ h.2)

in_mapped : (f : ℕ → Tree) (ids : List ℕ) (id : ℕ) → Contains ids id → Contains (map f ids) (f id)
in_mapped f ids id h = (h.0, omega (arith, h.1, length-map ids f), get_or-map f ids h.0 id (f id) h.1 ∙ ap f h.2)

trees_share : (g : Graph) (a b : ℕ) → SharesByte g a b → TreesShareByte (tree_of g a) (tree_of g b)
trees_share g a b h =
    (h.0, subst (λ (us : List ℕ). Contains us h.0) (sym (inputs-tree_of g a)) h.1, subst (λ (us : List ℕ). Contains us h.0) (sym (inputs-tree_of g b)) h.2)

terms_share : (g : Graph) (a b : ℕ) → TreesShareByte (tree_of g a) (tree_of g b) → SharesByte g a b
terms_share g a b h =
    (h.0, subst (λ (us : List ℕ). Contains us h.0) (inputs-tree_of g a) h.1, subst (λ (us : List ℕ). Contains us h.0) (inputs-tree_of g b) h.2)

abbrev asserted_trees : Condition → List Tree
asserted_trees q = map (tree_of q.graph) q.asserted

module _ (q : Condition) (new : ℕ) where
  tree_reached : (id : ℕ) → IsReached q new id → IsReachedTree (asserted_trees q) (tree_of q.graph new) (tree_of q.graph id)
  tree_reached id itself = new_tree
  tree_reached id (sharing {a} {b} r h both) = sharing_tree (tree_reached a r) (in_mapped (tree_of q.graph) q.asserted b h) (trees_share q.graph a b both)

  -- a tree that is reached is that of an asserted term that is
  term_reached : Contains q.asserted new → (t : Tree) → IsReachedTree (asserted_trees q) (tree_of q.graph new) t → (id : ℕ) × Contains q.asserted id × IsReached q new id × (tree_of q.graph id ≡ t)
  term_reached there t new_tree = (new, there, itself, refl)
  term_reached there t (sharing_tree {s} r h both) =
      let a = term_reached there s r in
      let b = mapped (tree_of q.graph) q.asserted t h in
      let shared = subst (λ (u : Tree). TreesShareByte u (tree_of q.graph b.0)) (sym a.3) (subst (TreesShareByte s) (sym b.2) both) in
      (b.0, b.1, sharing a.2 b.1 (terms_share q.graph a.0 b.0 shared), b.2)

pub slice_of_trees : (q : Condition) (new : ℕ) (s : Condition) → Contains q.asserted new → IsSlice q new s
    → IsSliceOfTrees (asserted_trees q) (tree_of q.graph new) (asserted_trees s)
slice_of_trees q new s there cut t = (
  (λ h.
      let v = mapped (tree_of s.graph) s.asserted t h in
      let u = from_slice q new s cut v.0 v.1 in (
        subst (Contains (asserted_trees q)) (u.3 ∙ v.2) (in_mapped (tree_of q.graph) q.asserted u.0 u.1),
        subst (IsReachedTree (asserted_trees q) (tree_of q.graph new)) (u.3 ∙ v.2) (tree_reached q new u.0 u.2),
      )),
  (λ h.
      let u = term_reached q new there t h.1 in
      let v = to_slice q new s cut u.0 u.1 ((cut.just u.0 u.1).1 u.2) in
      subst (Contains (map (tree_of s.graph) s.asserted)) (v.2 ∙ u.3) (in_mapped (tree_of s.graph) s.asserted v.0 v.1)),
)
