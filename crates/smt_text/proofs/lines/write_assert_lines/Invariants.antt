use Rattle.std.proofs.Common.{◌≡◌, ◌++◌, map, string_bytes, take}
use Rattle.smt_text.specs.Lines.{AssertLine, lines_text}
use Rattle.smt_text.proofs.lines.write_assert_lines.Given as goal

abbrev pub invariant-loop-id : goal.invariant-loop-id
invariant-loop-id l =
    string_bytes l.text
    ≡ string_bytes l.fn.text ++ lines_text (map AssertLine (take l.id-index l.asserted))
