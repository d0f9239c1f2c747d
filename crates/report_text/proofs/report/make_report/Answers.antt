use Rattle.std.proofs.Common.{◌<◌, ◌∙◌, ◌^◌, List, map, ap, refl, subst, sym, length}
use Rattle.std.specs.Prelude.{All}
use Rattle.fork_spec.specs.Leaves.{Leaf}
use Rattle.report_text.specs.Entries.{IsLeafAt, IsReportable, leaf_node_of}
use Rattle.report_text.specs.Legible.{HasSmallLog}
use Rattle.report_text.specs.Summaries.{count, summary_text}
use Rattle.report_text.specs.Reports.{leaves_in}
use Rattle.report_text.specs.declared.leaves.LeafAt.{LeafAt}
use Rattle.report_text.proofs.Claimed.{all_items}
use Rattle.report_text.proofs.FileList.{few_leaves, leaf_nodes_of_entries, leaves_of_nodes}
use Rattle.report_text.proofs.report.make_report.Goals as goal

pub summarize-summary-requires : goal.summarize-summary-requires
summarize-summary-requires g c = subst (λ (ls : List LeafAt). length ls < 2 ^ 32) (sym c.deref.ensures.value) (few_leaves g.W.Leaf.HasPart.part c.args.tree.now.story c.in_ok-leaves.leaves.items c.in_ok-leaves.ensures c.requires.done.few)

pub push_leaves-requires : goal.push_leaves-requires
push_leaves-requires g c = subst (All (λ (l : LeafAt). IsReportable l.part.now)) (sym c.deref-2.ensures.value)
    (all_items (λ (l : LeafAt). IsReportable l.part.now) c.in_ok-leaves.leaves.items (λ i l found.
    let at : IsLeafAt g.W.Leaf.HasPart.part c.args.tree.now.story l.node l.part.now = c.in_ok-leaves.ensures.each i l found in
    subst IsReportable at.same (c.requires.reportable l.node at.leaf at.within at.is_leaf at.held)))

pub report_file-requires : goal.report_file-requires
report_file-requires g c = subst (λ (ls : List LeafAt). length ls < 2 ^ 32) (sym c.deref-3.ensures.value) (few_leaves g.W.Leaf.HasPart.part c.args.tree.now.story c.in_ok-leaves.leaves.items c.in_ok-leaves.ensures c.requires.done.few)

pub returns : goal.returns
returns g c = record {
  leaves = c.in_ok-leaves.leaves.items;
  by_rank = c.in_ok-leaves.ensures;
  files = rw (
    c.in_ok-push-2.ensures.items,
    c.in_ok-push_leaves.ensures.files,
    c.in_ok-push.ensures.items,
    c.new-files.ensures.items,
    c.in_ok-events_file.ensures,
    c.in_ok-report_file.ensures,
    c.deref-2.ensures.value,
    c.deref-3.ensures.value,
    leaf_nodes_of_entries c.args.regions.now 0 c.in_ok-leaves.leaves.items,
  ) refl;
  summary = c.in_ok-summary_line.ensures ∙ ap summary_text c.summarize-summary.ensures
      ∙ ap (λ (ls : List LeafAt). summary_text (count (leaves_in (map leaf_node_of ls)))) c.deref.ensures.value
      ∙ ap (λ (ks : List Leaf). summary_text (count ks)) (leaves_of_nodes c.args.regions.now 0 c.in_ok-leaves.leaves.items);
  small_logs = subst (All (λ (l : LeafAt). HasSmallLog l.part.now.evidence)) c.deref-2.ensures.value c.in_ok-push_leaves.ensures.small;
}
