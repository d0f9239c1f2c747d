use Rattle.std.proofs.Common.{◌∙◌, ap, sym}
use Rattle.fork_spec.specs.Histories.{is_leaf_status}
use Rattle.report_text.proofs.Ordering.{none_yet, number_kept, number_pushed}
use Rattle.report_text.proofs.leaves.leaf_numbers.Goals as goal
use Rattle.report_text.proofs.leaves.leaf_numbers.Goals.{then-is_leaf+in_ok-push, else-is_leaf}

pub loop-node-init : goal.loop-node-init
loop-node-init g c = c.new-numbers.ensures.items ∙ sym (none_yet _)

pub loop-node-preserved : goal.loop-node-preserved
loop-node-preserved g c = elim c.if-is_leaf.branch [
  | then-is_leaf+in_ok-push w ↦ number_pushed _ c.loop-node.node c.loop-node.numbers.items _ c.loop-node.invariant (sym (c.is_leaf.ensures ∙ ap is_leaf_status c.status.ensures) ∙ w.if-is_leaf.true) (ap (λ v. v.items) w.numbers-is ∙ w.in_ok-push.ensures.items)
  | else-is_leaf w ↦ number_kept _ c.loop-node.node c.loop-node.numbers.items _ c.loop-node.invariant (sym (c.is_leaf.ensures ∙ ap is_leaf_status c.status.ensures) ∙ w.if-is_leaf.false) (ap (λ v. v.items) w.numbers-is)
]
