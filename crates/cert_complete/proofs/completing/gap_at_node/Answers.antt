use Rattle.cert_complete.proofs.Going.{stopped_at}
use Rattle.cert_complete.proofs.completing.gap_at_node.Goals as goal

pub gap_at-requires : goal.gap_at-requires
gap_at-requires g c =
    stopped_at c.requires.program c.args.budgets.now.steps c.in_ok-run.field-0.run c.in_ok-run.field-0.stop
    (c.in_ok-run.ensures.stopped c.requires.program c.requires.is_todo.0)
