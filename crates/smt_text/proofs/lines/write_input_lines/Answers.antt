use Rattle.std.proofs.Common.{◌∙◌, string_bytes}
use Rattle.smt_text.proofs.TextLines.{input_lines_end, input_lines_next}
use Rattle.smt_text.proofs.lines.write_input_lines.Goals as goal

pub loop-i-preserved : goal.loop-i-preserved
loop-i-preserved c =
    input_lines_next (string_bytes c.loop-i.text) _ c.loop-i.i c.args.inputs c.loop-i-test.true c.in_ok-write_input_line.ensures.ok
    ∙ c.loop-i.invariant

pub returns : goal.returns
returns c = record {
  ok = input_lines_end (string_bytes c.loop-i.text) c.loop-i.i c.args.inputs c.loop-i-test.false
      ∙ c.loop-i.invariant;
}
