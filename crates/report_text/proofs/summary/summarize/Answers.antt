use Rattle.std.proofs.Common.{◌∙◌, ap, arith, get_or, map, sym, take}
use Rattle.report_text.specs.Reports.{leaves_in}
use Rattle.report_text.specs.Summaries.{count}
use Rattle.report_text.proofs.Counting.{leaves_next, no_steps, room_of}
use Rattle.report_text.proofs.summary.summarize.Goals as goal

pub loop-leaf-init : goal.loop-leaf-init
loop-leaf-init g c =
    record { counted = c.empty-summary.ensures; steps = no_steps _ c.empty-summary.ensures }

pub with_leaf-summary-requires : goal.with_leaf-summary-requires
with_leaf-summary-requires g c =
    room_of g.E.Reported.leaf_node c.args.leaves.now c.loop-leaf.leaf-index _ c.loop-leaf-test.true (omega (arith, c.requires, c.loop-leaf-test.true)) c.loop-leaf.invariant.counted c.loop-leaf.invariant.steps

pub loop-leaf-preserved : goal.loop-leaf-preserved
loop-leaf-preserved g c =
    let leaf_node = g.E.Reported.leaf_node in
    let leaves = c.args.leaves.now in
    let i = c.loop-leaf.leaf-index in
    let d = c.leaf-item.result in
    record {
      counted =
          c.with_leaf-summary.ensures.counted (leaves_in (map leaf_node (take i leaves))) (leaf_node (get_or leaves i d)).leaf c.loop-leaf.invariant.counted
          (c.end.ensures ∙ ap (λ e. (leaf_node e).leaf.end) c.leaf-item.is) (c.steps.ensures ∙ ap (λ e. (leaf_node e).leaf.steps) c.leaf-item.is)
          ∙ ap count (sym (leaves_next leaf_node leaves i d c.loop-leaf-test.true));
      steps = omega (arith, c.with_leaf-summary.ensures.steps, c.loop-leaf.invariant.steps);
    }
