use Rattle.std.proofs.Common.{◌≡◌, ◌∙◌, Global, Vec, ap, length, map, ℕ}
use Rattle.bv_dag.specs.Graphs.{Graph}
use Rattle.smt_text.specs.LeafLines.{counts_heading, definitions, leaf_lines, leaf_text}
use Rattle.smt_text.specs.Lines.{AssertLine, lines_text}
use Rattle.text_parts.proofs.Made.{pushed}
use Rattle.smt_text.proofs.TextParts.{whole_text}
use Rattle.smt_text.proofs.printing.print_parts.Goals as goal

pub returns : goal.returns
unfolding leaf_text leaf_lines
returns c =
    let condition = c.args.condition.now in
    let outputs = c.args.outputs.now in
    let graph : c.dag-dag.result.now ≡ condition.graph = c.dag-dag.ensures in
    let inputs : c.inputs.result ≡ condition.graph.inputs =
    c.inputs.ensures ∙ ap (λ (g : Graph). g.inputs) graph in
    let nodes : c.len.result ≡ length condition.graph.nodes =
    c.len.ensures ∙ ap (λ (g : Graph). length g.nodes) graph in
    let counts : lines_text (counts_heading c.inputs.result c.len.result (length outputs))
    ≡ lines_text (counts_heading condition.graph.inputs (length condition.graph.nodes) (length outputs)) =
    ap (λ n. lines_text (counts_heading n c.len.result (length outputs))) inputs
    ∙ ap (λ n. lines_text (counts_heading condition.graph.inputs n (length outputs))) nodes in
    let defined : lines_text (definitions c.dag-dag.result.now c.args.end outputs)
    ≡ lines_text (definitions condition.graph c.args.end outputs) =
    ap (λ g. lines_text (definitions g c.args.end outputs)) graph in
    let asserted : lines_text (map AssertLine c.asserted.result.now)
    ≡ lines_text (map AssertLine condition.asserted) =
    ap (λ ids. lines_text (map AssertLine ids)) c.asserted.ensures.value in
    c.from_vec.ensures ∙ ap (λ (v : Vec ℕ Global). v.items) c.into_bytes.ensures.value
    ∙ c.in_ok-push_str.ensures.bytes
    ∙ whole_text _ _ _ _ _ _ _ _ _ c.in_ok-text.ensures.bytes
    c.in_ok-write_runs_heading.ensures.ok
    (pushed _ _ _ _ c.in_ok-write_counts_heading.ensures.ok counts)
    (pushed _ _ _ _ c.in_ok-write_definitions.ensures.ok defined)
    (pushed _ _ _ _ c.in_ok-write_assert_lines.ensures.ok asserted)
