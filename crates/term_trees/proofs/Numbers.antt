-- The number of a term is below what its bits can hold.
use Rattle.std.proofs.Common.{◌≡◌, ℕ, ◌<◌, ◌^◌, List, subst, ◌∙◌}
use Rattle.std.specs.Prelude.{All}
use Rattle.bv_dag.specs.BitVectors.{BitVector}
use Rattle.bv_dag.specs.Graphs.{Graph, number_of, width_of}
use Rattle.term_trees.specs.Trees.{IsTerm, tree_of, tree_value}
use Rattle.term_trees.proofs.Ranges.{in_range}
use Rattle.term_trees.proofs.TreeLaws.{value-tree_of, width-tree_of}

pub number_fits : (g : Graph) (id w : ℕ) (input : List ℕ) → IsTerm g.inputs (tree_of g id) → width_of g id ≡ w
    → All (λ b. b < 256) input → number_of g id input < 2 ^ w
number_fits g id w input term width bytes =
    let fits = in_range g.inputs input bytes (tree_of g id) term in
    subst (λ (x : BitVector). x.number < 2 ^ w) (value-tree_of g id input)
    (subst (λ n. (tree_value input (tree_of g id)).number < 2 ^ n) (width-tree_of g id ∙ width) fits.in_range)
