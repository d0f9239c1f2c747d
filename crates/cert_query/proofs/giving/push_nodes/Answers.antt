use Rattle.std.proofs.Common.{◌∙◌, ℕ, ◌++◌, ◌∷◌, [], ◌+◌, ap, get_or, map, take}
use Rattle.std.specs.List.{enumerate_from}
use Rattle.bv_dag.specs.declared.nodes.Node.{Node}
use Rattle.cert_form.specs.declared.line.CertLine.{CertLine}
use Rattle.cert_query.specs.QuestionLines.{node_line}
use Rattle.cert_query.proofs.Lines.{node_push, one_pushed}
use Rattle.cert_query.proofs.giving.push_nodes.Goals as goal

pub loop-id-preserved : goal.loop-id-preserved
loop-id-preserved c =
    let graph = c.args.dag.now in
    let nodes = c.nodes-nodes.result.now in
    let i = c.loop-id.id in
    let first = λ (k : ℕ). map (node_line graph) (enumerate_from 0 (take k nodes)) in
    let line = node_line graph (i, get_or nodes i (Node.Num 0 0)) in
    let before = c.loop-id.lines.items in
    one_pushed c.args.lines.now.items (first i) (first (i + 1)) before c.push.new.self.items line c.loop-id.invariant
    (c.in_ok-push.ensures.items ∙ ap (λ (l : CertLine). before ++ l ∷ []) c.in_ok-node_line.ensures)
    (node_push graph nodes i (Node.Num 0 0) c.loop-id-test.true)
