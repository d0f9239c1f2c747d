use Rattle.std.proofs.Common.{◌≡◌, take}
use Rattle.cow_pages.specs.Groups.{shared_groups}
use Rattle.cow_pages.proofs.groups.GroupList.share.Given as goal

abbrev pub invariant-loop-number : goal.invariant-loop-number
invariant-loop-number l = shared_groups l.groups.items ≡ take l.number-index (shared_groups l.number-items)
