-- The memory of a loaded program, in pages of 256 bytes.
use Rattle.std.specs.Prelude.{◌≡◌, ℕ, ◌+◌, ◌*◌, ◌-◌, ◌<◌, nat_lt, nat_le, Bool, ◌&&◌, if◌then◌else◌, List, [], ◌∷◌, ◌++◌, length, slice_index, Option, Some, None, IfSome, is_some, refl}
use Rattle.std.specs.Int.RustNames.{bit_and, bit_or}
use Rattle.std.specs.Ordering.{nat_cmp}
use Rattle.std.specs.FinMap.{FinMap, get, code}
use Rattle.std.specs.Coded.{Coded, code_by, coded×, coded_ℕ, coded_list}
use Rattle.elf_load.specs.Fields.{header_of, segments}
use Rattle.elf_load.specs.Areas.{touches, is_touched}
use Rattle.elf_load.specs.Refusals.{refusal}
use Rattle.elf_load.specs.declared.header.ProgramHeader.{ProgramHeader}
use Rattle.elf_load.specs.declared.page.Page.{Page}

-- where a program begins, and its pages by their numbers
pub record Image : Type 0 where
  pub entry : ℕ
  pub pages : FinMap nat_cmp Page

-- the stack, the pages 0x7FFF00 to 0x7FFFFF: no bytes of the file, to be read and written
abbrev pub stack : ProgramHeader
stack = record {
  kind = 1;
  offset = 0;
  address = 0x7FFF0000;
  file_size = 0;
  memory_size = 0x10000;
  flags = 6;
}

-- a byte of a page, 0 where there is no page
abbrev pub byte_in : Option Page → ℕ → ℕ
byte_in None i = 0
byte_in (Some p) i = slice_index p.bytes i

-- what takes memory: the segments, and the stack
unfoldable pub areas : List ℕ → List ProgramHeader
areas bytes = segments bytes ++ stack ∷ []

-- what may be done on a page: whatever one of the areas that touch it lets do. Bits of p_flags above X, W and R are left out
abbrev pub page_flags : List ProgramHeader → ℕ → ℕ
page_flags [] page = 0
page_flags (s ∷ ss) page = if touches s page then bit_or (bit_and s.flags 7) (page_flags ss page)
    else page_flags ss page

-- the file gives the byte at an address of an area
abbrev pub gives_byte : ProgramHeader → ℕ → Bool
gives_byte s address = nat_le s.address address && nat_lt address (s.address + s.file_size)

-- the byte at an address: of the area for which the file gives it, and else 0
abbrev pub byte_at : List ℕ → List ProgramHeader → ℕ → ℕ
byte_at bytes [] address = 0
byte_at bytes (s ∷ ss) address =
    if gives_byte s address then slice_index bytes (s.offset + (address - s.address))
    else byte_at bytes ss address

-- the image that a file loads to
pub record Loads (bytes : List ℕ) (image : Image) : Type 0 where
  pub fine : refusal bytes ≡ None
  pub entry : image.entry ≡ (header_of bytes).entry
  pub mapped : (page : ℕ) → is_some (get image.pages page) ≡ is_touched (areas bytes) page
  pub flags : (page : ℕ) → IfSome (get image.pages page)
      (λ p. p.flags ≡ page_flags (areas bytes) page)
  pub size : (page : ℕ) → IfSome (get image.pages page) (λ p. length p.bytes ≡ 256)
  pub content : (page i : ℕ) → i < 256
      → IfSome (get image.pages page)
      (λ p. slice_index p.bytes i ≡ byte_at bytes (areas bytes) (256 * page + i))

-- a page of the stack: to be read and written, and of zeros
abbrev pub IsStackPage : Option Page → Type 0
IsStackPage None = ⊥
IsStackPage (Some p) = (p.flags ≡ 6) × ((i : ℕ) → i < 256 → slice_index p.bytes i ≡ 0)

-- The codes of pages and images, by which they are told apart.
abbrev pub page_code : Coded Page
page_code = code_by (ℕ × List ℕ) (coded× coded_ℕ (coded_list coded_ℕ)) (λ p. (p.flags, p.bytes))
    (λ c. record { flags = c.0; bytes = c.1 }) (λ _. refl)

abbrev pub image_code : Coded Image
image_code = code_by (ℕ × FinMap nat_cmp Page) (coded× coded_ℕ (code coded_ℕ page_code))
    (λ i. (i.entry, i.pages)) (λ c. record { entry = c.0; pages = c.1 }) (λ _. refl)
