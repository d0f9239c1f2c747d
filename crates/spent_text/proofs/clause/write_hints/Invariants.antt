use Rattle.std.proofs.Common.{◌≡◌, ◌++◌, string_bytes, take}
use Rattle.std.specs.List.{flat_map}
use Rattle.spent_text.specs.LearntLine.{hint_text}
use Rattle.spent_text.proofs.clause.write_hints.Given as goal

abbrev pub invariant-loop-hint : goal.invariant-loop-hint
invariant-loop-hint l = string_bytes l.text ≡ string_bytes l.fn.text ++ flat_map hint_text (take l.hint-index l.hints)
