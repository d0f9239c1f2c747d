use Rattle.std.proofs.Common.{◌≡◌, ◌++◌, string_bytes, take}
use Rattle.smt_text.specs.LeafLines.{output_lines}
use Rattle.smt_text.specs.Lines.{lines_text}
use Rattle.smt_text.proofs.lines.write_output_lines.Given as goal

abbrev pub invariant-loop-i : goal.invariant-loop-i
invariant-loop-i l =
    string_bytes l.text
    ≡ string_bytes l.fn.text ++ lines_text (output_lines (take l.i l.outputs))
