use Rattle.std.proofs.Common.{◌≡◌, ap}
use Rattle.smt_text.specs.LeafLines.{input_lines, node_lines}
use Rattle.smt_text.specs.Lines.{lines_text}
use Rattle.text_parts.proofs.Made.{behind, pushed}
use Rattle.smt_text.proofs.TextParts.{terms_text}
use Rattle.smt_text.proofs.printing.write_terms.Goals as goal

pub returns : goal.returns
returns c =
    let graph = c.args.dag.now in
    let inputs : lines_text (input_lines 0 c.inputs.result) ≡ lines_text (input_lines 0 graph.inputs) =
    ap (λ n. lines_text (input_lines 0 n)) c.inputs.ensures in
    record {
      ok = behind c.write_node_lines.result _ _ _ c.write_node_lines.ensures.ok
          (terms_text (input_lines 0 graph.inputs) (node_lines graph) _ _ _ _
          c.in_ok-push_str.ensures.bytes (pushed _ _ _ _ c.in_ok-write_input_lines.ensures.ok inputs) c.in_ok-push_str-2.ensures.bytes);
    }
