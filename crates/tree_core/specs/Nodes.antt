-- Nodes at their birth.
use Rattle.std.specs.Prelude.{Bool, Option}
use Rattle.tree_core.specs.declared.node.Origin.{Origin}

-- whose kid it is (of the root nothing), with what content it was born, and whether as a leaf
pub record Node (R : Type 0) : Type 0 where
  pub origin : Option Origin
  pub content : R
  pub is_leaf : Bool
