use Rattle.std.proofs.Common.{refl}
use Rattle.cow_pages.proofs.SharedChanges.{shared_groups_more}
use Rattle.cow_pages.proofs.groups.GroupList.share.Goals as goal

pub loop-number-preserved : goal.loop-number-preserved
loop-number-preserved c =
    rw c.in_ok-push.ensures.items
    (shared_groups_more c.loop-number.groups.items c.deref-number-items.result.now c.loop-number.number-index c.loop-number-item.result
    (c.loop-number-item.result.0, c.in_ok-try_clone.field-0) c.loop-number.invariant c.loop-number-test.true refl c.in_ok-try_clone.ensures c.loop-number-item.is)
