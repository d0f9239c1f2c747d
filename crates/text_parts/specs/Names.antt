-- The short texts that stand in more than one file: words for kinds and ends of leaves, paths, choices.
use Rattle.std.specs.Prelude.{ℕ, List, ◌++◌, codes}
use Rattle.std.specs.Int.{to_be_bytes, w32}
use Rattle.std.specs.List.{flat_map}
use Rattle.hex.specs.Hex.{encode_lower}
use Rattle.rv_decode.specs.Ends.{trap_name}
use Rattle.rv_decode.specs.declared.ends.PathStep.{PathStep}
use Rattle.rv_decode.specs.declared.ends.PathStep.TheVariants.{Taken, NotTaken, Target}
use Rattle.rv_decode.specs.declared.ends.Trap.{Trap}
use Rattle.tree_core.specs.declared.cause.Cause.{Cause}
use Rattle.tree_core.specs.declared.cause.Cause.TheVariants.{Steps, Targets, Conflicts, Nodes}
use Rattle.tree_core.specs.declared.choice.Choice.{Choice}
use Rattle.tree_core.specs.declared.choice.Choice.TheVariants.{No, Yes, Value, Rest}

-- a number below 2 ^ 32 in eight hexadecimal digits
abbrev pub eight_digits : ℕ → List ℕ
eight_digits n = encode_lower (to_be_bytes w32 n)

-- an entry of a path: what a conditional branch does, or where a JALR goes
abbrev pub step_text : PathStep → List ℕ
step_text Taken = codes "T"
step_text NotTaken = codes "N"
step_text (Target target) = codes "@" ++ eight_digits target

-- the entries, with nothing between
abbrev pub path_text : List PathStep → List ℕ
path_text path = flat_map step_text path

-- a choice: the side of a branch, a value of a term, or none of the values that have a side of
-- their own
abbrev pub choice_text : Choice → List ℕ
choice_text No = codes "N"
choice_text Yes = codes "Y"
choice_text (Value value) = codes "=" ++ eight_digits value
choice_text Rest = codes "R"

-- the choices, with nothing between
abbrev pub choices_text : List Choice → List ℕ
choices_text choices = flat_map choice_text choices

-- The runs of a leaf have all ended, or were cut.
pub data Kind : Type 0 where
  finished : Kind
  cut : Cause → Kind

-- The word for how the runs end.
pub data EndWord : Type 0 where
  exit : EndWord
  trap : Trap → EndWord
  running : EndWord

-- the budget that was spent
abbrev pub cause_text : Cause → List ℕ
cause_text Steps = codes "steps"
cause_text Targets = codes "targets"
cause_text Conflicts = codes "conflicts"
cause_text Nodes = codes "nodes"

abbrev pub kind_text : Kind → List ℕ
kind_text finished = codes "finished"
kind_text (cut cause) = cause_text cause

abbrev pub word_text : EndWord → List ℕ
word_text exit = codes "exit"
word_text (trap t) = trap_name t
word_text running = codes "running"
