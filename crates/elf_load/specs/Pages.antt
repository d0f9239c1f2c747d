-- What stands at a page's number, while areas are put into memory one after the other.
use Rattle.std.specs.Prelude.{◌≡◌, ℕ, ◌+◌, ◌*◌, ◌<◌, List, length, Option, Some, None, IfSome, is_some}
use Rattle.std.specs.BTreeMap.{BTreeMap, get}
use Rattle.std.specs.FinMap.{FinMap, from_entries}
use Rattle.std.specs.Ordering.{nat_cmp}
use Rattle.elf_load.specs.Areas.{is_touched}
use Rattle.elf_load.specs.Images.{page_flags, byte_at, byte_in}
use Rattle.elf_load.specs.declared.header.ProgramHeader.{ProgramHeader}
use Rattle.elf_load.specs.declared.page.Page.{Page}

-- the flags, 0 where there is no page
abbrev pub flags_in : Option Page → ℕ
flags_in None = 0
flags_in (Some p) = p.flags

-- what these areas have at a page's number
pub record IsPage (bytes : List ℕ) (areas : List ProgramHeader) (number : ℕ)
    (found : Option Page) : Type 0 where
  pub mapped : is_some found ≡ is_touched areas number
  pub flags : flags_in found ≡ page_flags areas number
  pub content : (i : ℕ) → i < 256 → byte_in found i ≡ byte_at bytes areas (256 * number + i)
  pub size : IfSome found (λ p. length p.bytes ≡ 256)

-- the pages are those of these areas
abbrev pub HoldsAreas : List ℕ → List ProgramHeader → BTreeMap ℕ Page → Type 0
HoldsAreas bytes areas pages = (number : ℕ) → IsPage bytes areas number (get nat_cmp pages number)

-- the pages as a finite map
abbrev pub map_of : BTreeMap ℕ Page → FinMap nat_cmp Page
map_of pages = from_entries pages.entries
