-- The pages of a machine's memory, by their numbers, and as a list in the order of these.
use Rattle.std.specs.Prelude.{◌≡◌, ℕ, ◌+◌, ◌-◌, ◌^◌, ◌<◌, ◌&&◌, nat_le, nat_lt, true, if◌then◌else◌, List, [], ◌∷◌, length, slice_index, slice_index_or, Option}
use Rattle.std.specs.Coded.{Coded, coded_ℕ}
use Rattle.std.specs.FinMap.{FinMap, code}
use Rattle.std.specs.Ordering.{nat_cmp}
use Rattle.elf_load.specs.Images.{Image, page_code}
use Rattle.elf_load.specs.declared.page.Page.{Page}
use Rattle.elf_load.specs.declared.region.Region.{Region}
use Rattle.rv_spec.specs.Memory.{flags_of, byte_of, is_mapped}

abbrev pub Pages : Type 0
Pages = FinMap nat_cmp Page

-- their code, by which they are told apart
abbrev pub pages_code : Coded Pages
pages_code = code coded_ℕ page_code

-- the pages as those of an image
abbrev pub image_of : Pages → Image
image_of pages = record { entry = 0; pages = pages }

-- the flags of a page, if it is mapped
abbrev pub flags_on : Pages → ℕ → Option ℕ
flags_on pages = flags_of (image_of pages)

-- the byte at an address, 0 where no page is mapped
abbrev pub byte_on : Pages → ℕ → ℕ
byte_on pages = byte_of (image_of pages)

-- what a list is said to hold past its end
abbrev pub past_the_end : ℕ × Page
past_the_end = (0, record { flags = 0; bytes = [] })

-- the number of the page at a place of a list
abbrev pub page_number_at : List (ℕ × Page) → ℕ → ℕ
page_number_at pages i = let page = slice_index_or pages i past_the_end in page.0

-- the numbers rise, so that none comes twice
abbrev pub AreByNumber : List (ℕ × Page) → Type 0
AreByNumber pages = (i j : ℕ) → i < j → j < length pages
    → page_number_at pages i < page_number_at pages j

-- the page at this place has the number
pub record IsPlaceOf (pages : List (ℕ × Page)) (number i : ℕ) : Type 0 where
  pub in_range : i < length pages
  pub has_number : page_number_at pages i ≡ number

-- each address of a region is one of memory, on a mapped page
abbrev pub IsMapped : (ℕ → Option ℕ) → Region → Type 0
IsMapped flags r = (i : ℕ) → i < r.count → (r.start + i < 2 ^ 32)
    × (is_mapped flags (r.start + i) ≡ true)

abbrev pub AreMapped : (ℕ → Option ℕ) → List Region → Type 0
AreMapped flags [] = Unit {0}
AreMapped flags (r ∷ rs) = IsMapped flags r × AreMapped flags rs

-- memory with so many of the bytes from an address on
abbrev pub filled : ℕ → ℕ → List ℕ → (ℕ → ℕ) → ℕ → ℕ
filled start count bytes byte x =
    if nat_le start x && nat_lt x (start + count) then slice_index bytes (x - start) else byte x
