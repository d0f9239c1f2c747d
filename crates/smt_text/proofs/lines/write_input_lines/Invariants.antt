use Rattle.std.proofs.Common.{◌≡◌, ◌++◌, ◌-◌, string_bytes}
use Rattle.smt_text.specs.LeafLines.{input_lines}
use Rattle.smt_text.specs.Lines.{lines_text}
use Rattle.smt_text.proofs.lines.write_input_lines.Given as goal

abbrev pub invariant-loop-i : goal.invariant-loop-i
invariant-loop-i l =
    string_bytes l.text ++ lines_text (input_lines l.i (l.inputs - l.i))
    ≡ string_bytes l.fn.text ++ lines_text (input_lines 0 l.inputs)
