-- What was spent on a leaf that stands for all other values of a term, the values that were found; or on one that was cut for want of
-- nodes, how many there were.
use Rattle.std.specs.Prelude.{ℕ, List, ◌++◌, codes, decimal, length}
use Rattle.std.specs.List.{flat_map}
use Rattle.fork_spec.specs.Evidence.{Spent}
use Rattle.spent_text.specs.FoundLine.{found_text}

-- how many values, the term's name in the text of its leaf, and a line for each value
unfoldable pub targets_text : Spent → List ℕ
targets_text spent =
    codes "; spent targets " ++ decimal (length spent.found) ++ codes "\n"
    ++ codes "; term n" ++ decimal spent.term ++ codes "\n"
    ++ flat_map found_text spent.found

-- how many nodes
unfoldable pub nodes_text : ℕ → List ℕ
nodes_text count = codes "; spent nodes " ++ decimal count ++ codes "\n"
