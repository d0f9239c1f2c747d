use Rattle.std.proofs.Common.{◌≡◌, string_bytes, take}
use Rattle.std.specs.List.{flat_map}
use Rattle.spent_text.specs.FoundLine.{found_text}
use Rattle.report_text.proofs.spent.found_lines.Given as goal

abbrev pub invariant-loop-found : goal.invariant-loop-found
invariant-loop-found l = string_bytes l.lines ≡ flat_map found_text (take l.found-index l.values)
