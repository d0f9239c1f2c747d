-- Terms of one graph that stand in another one too.
use Rattle.std.specs.Prelude.{◌≡◌, ℕ, List, map}
use Rattle.bv_dag.specs.Graphs.{Graph, number_of, width_of}
use Rattle.term_trees.specs.Trees.{tree_of}

-- over as many input bytes, each unfolds to the same tree, is as wide and worth as much
pub record AreCopies (old : Graph) (ids : List ℕ) (new : Graph) (copies : List ℕ) : Type 0 where
  pub inputs : new.inputs ≡ old.inputs
  pub trees : map (tree_of new) copies ≡ map (tree_of old) ids
  pub widths : map (width_of new) copies ≡ map (width_of old) ids
  pub numbers : (input : List ℕ)
      → map (λ id. number_of new id input) copies ≡ map (λ id. number_of old id input) ids
