use Rattle.std.proofs.Common.{◌≡◌, string_bytes, take}
use Rattle.text_parts.specs.Names.{choices_text}
use Rattle.text_parts.proofs.names.write_choices.Given as goal

abbrev pub invariant-loop-choice : goal.invariant-loop-choice
invariant-loop-choice l = string_bytes l.entries ≡ choices_text (take l.choice-index l.choices)
