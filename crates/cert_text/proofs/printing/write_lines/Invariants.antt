use Rattle.std.proofs.Common.{◌≡◌, ◌++◌, string_bytes, take}
use Rattle.std.specs.List.{flat_map}
use Rattle.cert_text.specs.Lines.{line_text}
use Rattle.cert_text.proofs.printing.write_lines.Given as goal

abbrev pub invariant-loop-line : goal.invariant-loop-line
invariant-loop-line l = string_bytes l.text ≡ string_bytes l.fn.text ++ flat_map line_text (take l.line-index l.lines)
