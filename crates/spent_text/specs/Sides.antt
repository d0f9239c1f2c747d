-- The sides that a node is parted into, as the lines of splits have them.
use Rattle.std.specs.Prelude.{ℕ, List, [], ◌++◌, Option, Some, None, codes}
use Rattle.std.specs.List.{flat_map}
use Rattle.tree_core.specs.declared.cause.Cause.{Cause}
use Rattle.fork_spec.specs.Walks.{Side}
use Rattle.text_parts.specs.Names.{cause_text, choice_text}

-- behind the choice of a side that is a leaf at once, the budget that was spent
abbrev pub mark_text : Option Cause → List ℕ
mark_text None = []
mark_text (Some cause) = codes "!" ++ cause_text cause

abbrev pub side_text : Side → List ℕ
side_text side = codes " " ++ choice_text side.choice ++ mark_text side.cut

-- the sides, a blank before each
abbrev pub sides_text : List Side → List ℕ
sides_text sides = flat_map side_text sides
