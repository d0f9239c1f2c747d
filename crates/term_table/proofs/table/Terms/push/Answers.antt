use Rattle.std.proofs.Common.{◌≡◌, ap, sym, subst, ◌∙◌}
use Rattle.bv_dag.specs.Graphs.{Graph, IsDag}
use Rattle.bv_dag.specs.Nodes.{Fits, node_width, widths_of}
use Rattle.bv_dag.proofs.Fitting.{all_at_most_64, IsDag-push, widths_pushed}
use Rattle.term_table.specs.Entries.{nodes_of, kept_widths}
use Rattle.term_table.proofs.Keeping.{nodes_of-push, kept_widths-push}
use Rattle.term_table.proofs.table.Terms.push.Goals as goal

pub width-width-requires : goal.width-width-requires
width-width-requires c =
    let dag : IsDag c.args.self.now = subst IsDag c.self.view_is c.self.invariant.0 in
    record {
      fits = (c.args.self.now.inputs, c.requires);
      at_most_64 = all_at_most_64 c.args.self.now.inputs c.args.self.now.nodes dag.all_fit;
    }

pub invariant_of-self-2 : goal.invariant_of-self-2
invariant_of-self-2 c =
    let fits : Fits c.self.inside.inputs (widths_of (nodes_of c.self.inside.entries)) c.args.node = rw (← c.self.view_is) at c.requires in
    let width : c.width-width.result ≡ node_width (kept_widths c.self.inside.entries) c.args.node =
    c.width-width.ensures
    ∙ ap (λ (g : Graph). node_width (widths_of g.nodes) c.args.node) (sym c.self.view_is)
    ∙ ap (λ ws. node_width ws c.args.node) (sym c.self.invariant.1) in
    rw (c.in_ok-push.ensures.ok) (
      IsDag-push _ _ _ _ c.self.invariant.0 fits (nodes_of-push c.self.inside.entries _),
      widths_pushed _ _ (kept_widths c.self.inside.entries) _ c.args.node c.width-width.result c.self.invariant.1 (nodes_of-push c.self.inside.entries _) (kept_widths-push c.self.inside.entries _) width,
    )
