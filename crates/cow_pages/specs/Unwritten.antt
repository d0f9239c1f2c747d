-- Pages of the image that weren't written.
use Rattle.std.specs.Prelude.{◌≡◌, ◌/◌, None}
use Rattle.std.specs.FinMap.{get}
use Rattle.cow_pages.specs.Groups.{Groups, IsGroupAt, memory_in}
use Rattle.cow_pages.specs.declared.pages.Unwritten.{Unwritten}

-- the groups that were written don't have the page, and its group has this place among those of the image
pub record IsUnwritten (base own : Groups) (page : Unwritten) : Type 0 where
  pub none : get (memory_in own) page.number ≡ None
  pub group : IsGroupAt base (page.number / 64) page.group
