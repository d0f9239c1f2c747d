use Rattle.std.proofs.Common.{◌≡◌, string_bytes, take}
use Rattle.text_parts.specs.Names.{path_text}
use Rattle.text_parts.proofs.names.write_path.Given as goal

abbrev pub invariant-loop-step : goal.invariant-loop-step
invariant-loop-step l = string_bytes l.entries ≡ path_text (take l.step-index l.path)
