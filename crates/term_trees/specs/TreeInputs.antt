-- The input bytes that a tree names.
use Rattle.std.specs.Prelude.{ℕ, List, [], ◌∷◌, ◌++◌}
use Rattle.term_trees.specs.Trees.{Tree, Constant, Byte, Complement, Negated, Two, Test, Choice, Part, Widened, Joined}

abbrev pub tree_inputs : Tree → List ℕ
tree_inputs (Constant w v) = []
tree_inputs (Byte i) = i ∷ []
tree_inputs (Complement t) = tree_inputs t
tree_inputs (Negated t) = tree_inputs t
tree_inputs (Two op s t) = tree_inputs s ++ tree_inputs t
tree_inputs (Test op s t) = tree_inputs s ++ tree_inputs t
tree_inputs (Choice c s t) = tree_inputs c ++ tree_inputs s ++ tree_inputs t
tree_inputs (Part high low t) = tree_inputs t
tree_inputs (Widened by signed t) = tree_inputs t
tree_inputs (Joined s t) = tree_inputs s ++ tree_inputs t
