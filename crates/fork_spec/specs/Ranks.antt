-- The order of leaves.
use Rattle.std.specs.Prelude.{◌≡◌, List, [], ◌∷◌, All, true}
use Rattle.tree_core.specs.Choices.{precedes}
use Rattle.fork_spec.specs.Leaves.{Leaf}

-- each leaf stands before all those behind it
abbrev pub AreRanked : List Leaf → Type 0
AreRanked [] = Unit {0}
AreRanked (leaf ∷ leaves) =
    All (λ (later : Leaf). precedes leaf.choices later.choices ≡ true) leaves × AreRanked leaves
