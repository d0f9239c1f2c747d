-- Conditions whose asserted terms are the same trees.
use Rattle.std.proofs.Common.{◌≡◌, ◌==◌, ◌&&◌, ℕ, Bool, List, [], ◌∷◌, length, map, refl, sym, ap, ◌∙◌}
use Rattle.std.specs.List.{list_all}
use Rattle.bv_dag.specs.Graphs.{Graph, number_of}
use Rattle.bv_dag.specs.Queries.{Condition, holds}
use Rattle.term_trees.specs.Trees.{Tree, tree_of, tree_value}
use Rattle.term_trees.proofs.TreeLaws.{value-tree_of}

-- whether a tree is worth 1
pub is_one : List ℕ → Tree → Bool
is_one input t = (tree_value input t).number == 1

pub ones-by_trees : (g : Graph) (input ids : List ℕ) → list_all (λ id. number_of g id input == 1) ids ≡ list_all (is_one input) (map (tree_of g) ids)
unfolding is_one
ones-by_trees g input [] = refl
ones-by_trees g input (id ∷ ids) =
    ap (λ n. (n == 1) && list_all (λ i. number_of g i input == 1) ids) (sym (ap (λ v. v.number) (value-tree_of g id input)))
    ∙ ap (λ b. is_one input (tree_of g id) && b) (ones-by_trees g input ids)

-- they hold on the same inputs
pub holds-same_trees : (c d : Condition) (input : List ℕ) → c.graph.inputs ≡ d.graph.inputs → map (tree_of c.graph) c.asserted ≡ map (tree_of d.graph) d.asserted → holds c input ≡ holds d input
holds-same_trees c d input inputs trees =
    ap (λ n. (length input == n) && list_all (λ id. number_of c.graph id input == 1) c.asserted) inputs
    ∙ ap (λ b. (length input == d.graph.inputs) && b) (ones-by_trees c.graph input c.asserted ∙ ap (list_all (is_one input)) trees ∙ sym (ones-by_trees d.graph input d.asserted))
