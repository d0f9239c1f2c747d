use Rattle.cow_pages.proofs.PageLookups.{pages_whole}
use Rattle.cow_pages.proofs.SharedGroups.{page_missing}
use Rattle.cow_pages.proofs.groups.GroupList.page.Goals as goal

pub returns-in-Err-clause-value : goal.returns-in-Err-clause-value
returns-in-Err-clause-value c =
    page_missing c.args.self.now c.args.number c.in-Err.field-0 c.search_near.ensures.groups c.in-Err.ensures.gap

pub returns-in-Err-clause-whole : goal.returns-in-Err-clause-whole
returns-in-Err-clause-whole c = pages_whole c.args.self.now c.args.number c.search_near.ensures.groups
