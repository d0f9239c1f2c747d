use Rattle.std.proofs.Common.{◌∙◌}
use Rattle.sym_state.proofs.Noted.{elsewhere_more}
use Rattle.sym_state.proofs.updates.updates_with.Goals as goal

pub loop-list-preserved : goal.loop-list-preserved
loop-list-preserved c =
    c.in_ok-push_other.ensures
    ∙ elsewhere_more c.args.site.page c.loop-list.list-index c.args.updates.now c.loop-list.others.items c.list-item.result
    c.loop-list-test.true c.list-item.is c.loop-list.invariant
