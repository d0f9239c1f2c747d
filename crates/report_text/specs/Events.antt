-- The text of the events of a fork tree, a line each.
use Rattle.std.specs.Prelude.{ℕ, List, [], ◌++◌, Option, Some, None, codes, decimal}
use Rattle.std.specs.List.{flat_map}
use Rattle.tree_core.specs.declared.cause.Cause.{Cause}
use Rattle.tree_core.specs.declared.event.Deed.{Deed}
use Rattle.tree_core.specs.declared.event.Deed.TheVariants.{Claim, Split, Finish, Cut, Release}
use Rattle.fork_spec.specs.Walks.{Line, Sides}
use Rattle.spent_text.specs.Sides.{sides_text}
use Rattle.text_parts.specs.Names.{cause_text}

-- why a leaf was cut, and nothing where it was not
abbrev pub cut_text : Option Cause → List ℕ
cut_text None = []
cut_text (Some cause) = cause_text cause

-- a worker and a node, by their numbers
abbrev pub actors_text : (by node : ℕ) → List ℕ
actors_text by node = decimal by ++ codes " " ++ decimal node

-- the line of what this worker does with this node
abbrev pub deed_text : (by node : ℕ) → Deed (Option Cause) Sides → List ℕ
deed_text by node Claim = codes "claim " ++ actors_text by node ++ codes "\n"
deed_text by node (Split sides) =
    codes "split " ++ actors_text by node ++ codes " " ++ decimal sides.first
    ++ sides_text sides.sides ++ codes "\n"
deed_text by node (Finish cut) = codes "finish " ++ actors_text by node ++ codes "\n"
deed_text by node (Cut cut) =
    codes "cut " ++ actors_text by node ++ codes " " ++ cut_text cut ++ codes "\n"
deed_text by node Release = codes "release " ++ actors_text by node ++ codes "\n"

abbrev pub event_text : Line → List ℕ
event_text line = deed_text line.by line.node line.deed

-- all of them, in their order
unfoldable pub events_text : List Line → List ℕ
events_text lines = flat_map event_text lines
