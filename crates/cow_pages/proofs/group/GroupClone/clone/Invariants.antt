use Rattle.std.proofs.Common.{◌≡◌, take}
use Rattle.cow_pages.specs.Groups.{shared_places}
use Rattle.cow_pages.proofs.group.GroupClone.clone.Given as goal

abbrev pub invariant-loop-page : goal.invariant-loop-page
invariant-loop-page l = shared_places l.pages.items ≡ take l.page-index (shared_places l.page-items)
