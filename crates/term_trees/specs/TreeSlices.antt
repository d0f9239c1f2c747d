-- Which asserted terms of a condition matter for one of them, by their trees, so that conditions of two graphs can be compared.
use Rattle.std.specs.Prelude.{◌≡◌, ◌↔◌, ℕ, List, Contains, map}
use Rattle.bv_dag.specs.Queries.{Condition}
use Rattle.term_trees.specs.TreeInputs.{tree_inputs}
use Rattle.term_trees.specs.Trees.{Tree, tree_of}

-- both trees name an input byte
abbrev pub TreesShareByte : Tree → Tree → Type 0
TreesShareByte s t = (i : ℕ) × Contains (tree_inputs s) i × Contains (tree_inputs t) i

-- A tree that is reached from the new one: it is the new one, or it is asserted and shares an input byte with one that is
-- reached.
pub data IsReachedTree (asserted : List Tree) (new : Tree) : Tree → Type 0 where
  itself : IsReachedTree asserted new new
  sharing : {s t : Tree} → IsReachedTree asserted new s → Contains asserted t → TreesShareByte s t
      → IsReachedTree asserted new t

-- just those of the asserted trees that are reached from the new one
abbrev pub IsSliceOfTrees : List Tree → (new : Tree) → List Tree → Type 0
IsSliceOfTrees asserted new part = (t : Tree) → Contains part t
    ↔ (Contains asserted t × IsReachedTree asserted new t)

-- what a condition asserts, unfolded
abbrev pub asserted_trees : Condition → List Tree
asserted_trees q = map (tree_of q.graph) q.asserted

-- The part of a condition that matters for one of its terms: unfolded, it asserts that term and those that share an input
-- byte with it, directly or through others, and no other.
pub record IsPartFor (q : Condition) (new : ℕ) (part : Condition) : Type 0 where
  pub inputs : part.graph.inputs ≡ q.graph.inputs
  pub slice : IsSliceOfTrees (asserted_trees q) (tree_of q.graph new) (asserted_trees part)
