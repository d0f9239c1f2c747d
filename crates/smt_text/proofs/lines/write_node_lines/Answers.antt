use Rattle.std.proofs.Common.{◌≡◌, ◌∙◌, ◌<◌, ap, get_or, length}
use Rattle.bv_dag.specs.Graphs.{width_of}
use Rattle.bv_dag.specs.declared.nodes.Node.TheVariants.{Num}
use Rattle.smt_text.specs.Lines.{NodeLine, line_text}
use Rattle.smt_text.proofs.TextLines.{no_lines, numbered_step}
use Rattle.text_parts.proofs.Made.{pushed}
use Rattle.smt_text.proofs.lines.write_node_lines.Goals as goal

pub loop-id-init : goal.loop-id-init
loop-id-init c = no_lines _ _ c.in_ok-reserve.ensures.bytes

pub loop-id-preserved : goal.loop-id-preserved
loop-id-preserved c =
    let graph = c.args.dag.now in
    let id = c.loop-id.id in
    let line : line_text (NodeLine id c.from.result (get_or c.nodes-node-items.result.now id (Num 0 0)))
    ≡ line_text (NodeLine id (width_of graph id) (get_or graph.nodes id (Num 0 0))) =
    ap (λ width. line_text (NodeLine id width (get_or c.nodes-node-items.result.now id (Num 0 0)))) (c.from.ensures ∙ c.width_of.ensures.value)
    ∙ ap (λ nodes. line_text (NodeLine id (width_of graph id) (get_or nodes id (Num 0 0)))) c.nodes-node-items.ensures.value
    in
    let there : id < length graph.nodes =
    rw c.nodes-node-items.ensures.value at c.loop-id-test.true in
    numbered_step (λ (id, node). NodeLine id (width_of graph id) node) graph.nodes id (Num 0 0) _ _ _ there c.loop-id.invariant (pushed _ _ _ _ c.in_ok-write_node_line.ensures.ok line)
