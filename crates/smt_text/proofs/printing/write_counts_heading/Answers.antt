use Rattle.std.proofs.Common.{codes, string_bytes}
use Rattle.text_parts.proofs.Made.{appended}
use Rattle.smt_text.proofs.TextParts.{counts_text}
use Rattle.smt_text.proofs.printing.write_counts_heading.Goals as goal

pub returns : goal.returns
returns c = record {
  ok = appended c.push_str.result (string_bytes c.push_numbered-3.new.text) _ (codes "\n") _ c.push_str.ensures.bytes
      (counts_text c.args.inputs c.args.nodes c.args.outputs _ _ _ _ c.in_ok-push_numbered.ensures.ok c.in_ok-push_numbered-2.ensures.ok c.in_ok-push_numbered-3.ensures.ok);
}
