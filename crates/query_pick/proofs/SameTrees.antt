-- Terms of two graphs that are the same trees, one by one.
use Rattle.std.proofs.Common.{◌≡◌, ℕ, List, [], ◌∷◌, map, refl, sym, ap, ◌∙◌, arith, subst}
use Rattle.std.specs.Prelude.{All}
use Rattle.std.proofs.lemmas.List.{get_or-map, length-map}
use Rattle.std.proofs.lemmas.List.Elements.{All-map}
use Rattle.bv_dag.specs.Graphs.{Graph, val, width_of}
use Rattle.bv_dag.specs.Queries.{AreBits}
use Rattle.term_trees.specs.Trees.{tree_of, tree_value, tree_width}
use Rattle.term_trees.proofs.TreeLaws.{value-tree_of, width-tree_of}

widths-by_trees : (g : Graph) (ids : List ℕ) →
    map (width_of g) ids ≡ map tree_width (map (tree_of g) ids)
widths-by_trees g [] = refl
widths-by_trees g (id ∷ ids) = cc (width-tree_of g id, widths-by_trees g ids)

values-by_trees : (g : Graph) (input ids : List ℕ) →
    map (λ id. val g id input) ids ≡ map (tree_value input) (map (tree_of g) ids)
values-by_trees g input [] = refl
values-by_trees g input (id ∷ ids) = cc (value-tree_of g id input, values-by_trees g input ids)

module _ (g h : Graph) (xs ys : List ℕ) where
  -- they are as wide
  pub widths-same_trees : map (tree_of g) xs ≡ map (tree_of h) ys →
      map (width_of g) xs ≡ map (width_of h) ys
  widths-same_trees same =
      widths-by_trees g xs ∙ ap (map tree_width) same ∙ sym (widths-by_trees h ys)

  -- they are worth the same
  pub values-same_trees : map (tree_of g) xs ≡ map (tree_of h) ys → (input : List ℕ) →
      map (λ id. val g id input) xs ≡ map (λ id. val h id input) ys
  values-same_trees same input =
      values-by_trees g input xs ∙ ap (map (tree_value input)) same
      ∙ sym (values-by_trees h input ys)

  -- where the ones are of one bit, so are the others
  pub AreBits-same_widths : map (width_of g) xs ≡ map (width_of h) ys → AreBits h ys → AreBits g xs
  AreBits-same_widths same bits k d there =
      let all : All (λ w. w ≡ 1) (map (width_of g) xs) =
      subst (All (λ w. w ≡ 1)) (sym same) (All-map (λ w. w ≡ 1) (width_of h) ys bits) in
      sym (get_or-map (width_of g) xs k d 0 there)
      ∙ all k 0 (omega (arith, there, length-map xs (width_of g)))
