use Rattle.std.proofs.Common.{ap, subst, ◌∙◌}
use Rattle.std.specs.Arc.{arc_value}
use Rattle.cow_pages.specs.Groups.{AreGroups, GroupRef}
use Rattle.cow_pages.proofs.PageLookups.{pages_whole}
use Rattle.cow_pages.proofs.SharedGroups.{page_read_in}
use Rattle.cow_pages.proofs.groups.GroupList.page_at.Goals as goal

pub returns-clause-value : goal.returns-clause-value
returns-clause-value c =
    c.page.ensures
    ∙ page_read_in c.self.inside.groups.items c.args.self.now c.args.number c.args.group c.index.result.now c.deref.result.now
    c.self.view_is (subst AreGroups c.self.view_is c.self.invariant) c.requires.group
    (c.deref.ensures ∙ ap (λ (g : GroupRef). arc_value g.1) c.index.ensures)

pub returns-clause-whole : goal.returns-clause-whole
returns-clause-whole c = pages_whole c.args.self.now c.args.number (subst AreGroups c.self.view_is c.self.invariant)
