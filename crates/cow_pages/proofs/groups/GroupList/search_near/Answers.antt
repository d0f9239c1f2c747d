use Rattle.std.proofs.Common.{ap, subst, ◌∙◌}
use Rattle.cow_pages.specs.Groups.{AreGroups, shared_groups}
use Rattle.cow_pages.proofs.SharedGroups.{gap_read}
use Rattle.cow_pages.proofs.groups.GroupList.search_near.Goals as goal

pub returns-in-Some-2-clause-gap : goal.returns-in-Some-2-clause-gap
returns-in-Some-2-clause-gap c =
    gap_read c.deref.result.now c.args.self.now c.args.number c.args.recent c.in-Some.group.now
    (ap shared_groups c.deref.ensures.value ∙ c.self.view_is) (subst AreGroups c.self.view_is c.self.invariant)
    c.in-Some.ensures.lookup.3.0 (c.in-Some.ensures.lookup.3.1 c.in-Some.group.now) c.if-recent-eq0.true c.if-number-group.true
