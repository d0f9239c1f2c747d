use Rattle.cow_pages.proofs.SharedPlaces.{shared_places_more}
use Rattle.cow_pages.proofs.group.GroupClone.clone.Goals as goal

pub loop-page-preserved : goal.loop-page-preserved
loop-page-preserved c =
    rw c.in_ok-push.ensures.items
    (shared_places_more c.loop-page.pages.items c.deref-page-items.result.now c.loop-page.page-index c.page-item.result
    c.in_ok-share_page.field-0 c.loop-page.invariant c.loop-page-test.true c.in_ok-share_page.ensures c.page-item.is)
