use Rattle.smt_text.specs.LeafLines.{output_lines, status_lines, term_lines}
use Rattle.text_parts.proofs.Made.{behind}
use Rattle.smt_text.proofs.TextParts.{behind_text}
use Rattle.smt_text.proofs.printing.write_definitions.Goals as goal

pub returns : goal.returns
returns c = record {
  ok = behind c.write_output_lines.result _ _ _ c.write_output_lines.ensures.ok
      (behind_text (term_lines c.args.dag.now) (status_lines c.args.end) (output_lines c.args.outputs.now) _ _ _
      c.in_ok-write_terms.ensures.ok c.in_ok-write_status_lines.ensures.ok);
}
