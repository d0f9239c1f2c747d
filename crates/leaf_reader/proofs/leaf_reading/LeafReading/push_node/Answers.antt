use Rattle.std.proofs.Common.{rules, ◌≡◌, ◌∙◌, ◌==◌, ap, sym, subst, length}
use Rattle.bv_dag.specs.Graphs.{Graph, width_of, with_node}
use Rattle.bv_dag.specs.Nodes.{Fits, widths_of}
use Rattle.leaf_reader.specs.ReadingState.{IsPushed, line_said, reading_of}
use Rattle.leaf_reader.proofs.NextLines.{pushed_node}
use Rattle.leaf_reader.proofs.leaf_reading.LeafReading.push_node.Goals as goal

pub returns : goal.returns
returns c =
    let old = c.args.self.now in
    let said = c.args.said in
    let fit : Fits c.args.self.now.dag.inputs (widths_of c.args.self.now.dag.nodes) c.args.said.node = search rules in
    let dag : c.push.new.self ≡ with_node c.args.self.now.dag c.args.said.node = c.in_ok-push.ensures.ok in
    let wide : c.from.result ≡ width_of (with_node c.args.self.now.dag c.args.said.node) (length c.args.self.now.dag.nodes) =
    c.from.ensures ∙ c.width_of.ensures.value ∙ ap (λ (g : Graph). width_of g c.len-id.result) dag
    ∙ ap (λ k. width_of (with_node c.args.self.now.dag c.args.said.node) k) c.len-id.ensures in
    subst (λ (g : Graph). IsPushed (reading_of c.args.self.now) (line_said c.args.said) (reading_of (record old { dag = g })) (c.from.result == c.args.said.width)) (sym dag)
    (pushed_node (reading_of c.args.self.now) c.args.said.id c.args.said.width c.from.result c.args.said.node (c.if-said-id.false ∙ c.len-id.ensures) fit wide)
