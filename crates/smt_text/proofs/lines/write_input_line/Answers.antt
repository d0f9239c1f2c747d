use Rattle.std.proofs.Common.{append_assoc, codes, string_bytes}
use Rattle.text_parts.proofs.Made.{appended}
use Rattle.smt_text.proofs.lines.write_input_line.Goals as goal

pub returns : goal.returns
returns c = record {
  ok = appended c.push_str.result (string_bytes c.push_numbered.new.text) _ (codes " () (_ BitVec 8))\n") _ c.push_str.ensures.bytes (simp (c.in_ok-push_numbered.ensures.ok, append_assoc));
}
