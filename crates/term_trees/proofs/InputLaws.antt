-- The input bytes under a term are those that its tree names.
use Rattle.std.proofs.Common.{◌≡◌, ℕ, List, [], ◌∷◌, ◌++◌, map, refl, ap, sym, ◌∙◌}
use Rattle.std.proofs.lemmas.List.{map-append}
use Rattle.std.proofs.lemmas.List.Folds.{fold_along}
use Rattle.std.proofs.Math.ListN as lists
use Rattle.bv_dag.specs.Graphs.{Graph}
use Rattle.bv_dag.specs.Inputs.{node_inputs, inputs_at, inputs_of, inputs_under}
use Rattle.bv_dag.specs.Nodes.{map_in_turn}
use Rattle.bv_dag.specs.declared.nodes.Node.{Node}
use Rattle.bv_dag.specs.declared.nodes.Node.TheVariants.{Num, Input, Not, Neg, Binary, Compare, Ite, Extract, Extend, Concat}
use Rattle.term_trees.specs.Trees.{Tree, Constant, node_tree, tree_at, tree_of, trees}
use Rattle.term_trees.specs.TreeInputs.{tree_inputs}

inputs-tree_at : (ts : List Tree) (k : ℕ) → tree_inputs (tree_at ts k) ≡ inputs_at (map tree_inputs ts) k
inputs-tree_at ts k = sym (lists.get_or-map tree_inputs ts k (Constant 0 0))

inputs-node_tree : (ts : List Tree) (n : Node) → tree_inputs (node_tree (tree_at ts) n) ≡ node_inputs (inputs_at (map tree_inputs ts)) n
inputs-node_tree ts (Num w v) = refl
inputs-node_tree ts (Input i) = refl
inputs-node_tree ts (Not a) = inputs-tree_at ts a
inputs-node_tree ts (Neg a) = inputs-tree_at ts a
inputs-node_tree ts (Binary op a b) = cc (inputs-tree_at ts a, inputs-tree_at ts b)
inputs-node_tree ts (Compare op a b) = cc (inputs-tree_at ts a, inputs-tree_at ts b)
inputs-node_tree ts (Ite c a b) = cc (inputs-tree_at ts c, inputs-tree_at ts a, inputs-tree_at ts b)
inputs-node_tree ts (Extract high low a) = inputs-tree_at ts a
inputs-node_tree ts (Extend by signed a) = inputs-tree_at ts a
inputs-node_tree ts (Concat a b) = cc (inputs-tree_at ts a, inputs-tree_at ts b)

one_more : (ts : List Tree) (under : List (List ℕ)) (n : Node) → map tree_inputs ts ≡ under → map tree_inputs (ts ++ node_tree (tree_at ts) n ∷ []) ≡ under ++ node_inputs (inputs_at under) n ∷ []
one_more ts under n e =
    map-append tree_inputs ts (node_tree (tree_at ts) n ∷ [])
    ∙ ap (λ u. map tree_inputs ts ++ u ∷ []) (inputs-node_tree ts n)
    ∙ ap (λ us. us ++ node_inputs (inputs_at us) n ∷ []) e

map-inputs-trees : (nodes : List Node) → map tree_inputs (trees nodes) ≡ inputs_of nodes
unfolding trees inputs_of map_in_turn
map-inputs-trees nodes =
    fold_along (λ before n. before ++ node_tree (tree_at before) n ∷ []) (λ before n. before ++ node_inputs (inputs_at before) n ∷ [])
    (λ ts under. map tree_inputs ts ≡ under) (λ ts under n e. one_more ts under n e) [] [] nodes refl

-- a term's tree names just the bytes under the term
pub inputs-tree_of : (g : Graph) (id : ℕ) → tree_inputs (tree_of g id) ≡ inputs_under g id
inputs-tree_of g id = inputs-tree_at (trees g.nodes) id ∙ ap (λ (under : List (List ℕ)). inputs_at under id) (map-inputs-trees g.nodes)

-- under terms of one tree stand the same bytes
pub inputs-same : (g h : Graph) (a b : ℕ) → tree_of g a ≡ tree_of h b → inputs_under g a ≡ inputs_under h b
inputs-same g h a b e = sym (inputs-tree_of g a) ∙ ap tree_inputs e ∙ inputs-tree_of h b
