-- Choices, the entries of paths, and lists of them, as a text begins with them.
use Rattle.std.specs.Prelude.{ℕ, suc, List, [], ◌∷◌, length, codes, option_and_then}
use Rattle.std.specs.Option.{option_or}
use Rattle.rv_decode.specs.declared.ends.PathStep.{PathStep}
use Rattle.rv_decode.specs.declared.ends.PathStep.TheVariants.{Taken, NotTaken, Target}
use Rattle.tree_core.specs.declared.choice.Choice.{Choice}
use Rattle.tree_core.specs.declared.choice.Choice.TheVariants.{No, Yes, Value, Rest}
use Rattle.text_parts.specs.Pieces.{Reader, behind, eight, items, made, named}

-- a choice
abbrev pub plain_choices : List (List ℕ × Choice)
plain_choices = (codes "N", No) ∷ (codes "Y", Yes) ∷ (codes "R", Rest) ∷ []

abbrev pub plain_choice : Reader Choice
plain_choice text = named plain_choices text

abbrev pub value_choice : Reader Choice
value_choice text = made Value (option_and_then eight (behind (codes "=") text))

unfoldable pub choice : Reader Choice
choice text = option_or (plain_choice text) (value_choice text)

-- an entry of a path
abbrev pub branches : List (List ℕ × PathStep)
branches = (codes "T", Taken) ∷ (codes "N", NotTaken) ∷ []

abbrev pub branch_step : Reader PathStep
branch_step text = named branches text

abbrev pub target : Reader PathStep
target text = made Target (option_and_then eight (behind (codes "@") text))

unfoldable pub step : Reader PathStep
step text = option_or (branch_step text) (target text)

-- all choices, and all entries, of a list; each takes a byte or more
abbrev pub all_choices : Reader (List Choice)
all_choices text = items choice (suc (length text)) text

abbrev pub all_steps : Reader (List PathStep)
all_steps text = items step (suc (length text)) text
