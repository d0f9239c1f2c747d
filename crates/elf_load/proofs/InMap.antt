-- What a finite map of pages that areas take is.
use Rattle.std.proofs.Common.{◌≡◌, ℕ, ◌+◌, ◌*◌, ◌<◌, List, slice_index, Option, Some, None, IfSome, sym, subst}
use Rattle.std.specs.BTreeMap.{BTreeMap}
use Rattle.std.specs.FinMap.{get}
use Rattle.elf_load.specs.Images.{page_flags, byte_at}
use Rattle.elf_load.specs.Pages.{IsPage, HoldsAreas, map_of}
use Rattle.elf_load.specs.declared.header.ProgramHeader.{ProgramHeader}
use Rattle.elf_load.specs.declared.page.Page.{Page}
use Rattle.elf_load.proofs.Finding.{found_at}

pub page_in_map : (bytes : List ℕ) (areas : List ProgramHeader) (pages : BTreeMap ℕ Page) → HoldsAreas bytes areas pages → (q : ℕ) → IsPage bytes areas q (get (map_of pages) q)
page_in_map bytes areas pages h q = subst (IsPage bytes areas q) (sym (found_at pages q)) (h q)

pub flags_of_page : (bytes : List ℕ) (areas : List ProgramHeader) (q : ℕ) (found : Option Page) → IsPage bytes areas q found → IfSome found (λ p. p.flags ≡ page_flags areas q)
flags_of_page bytes areas q None h = tt
flags_of_page bytes areas q (Some p) h = h.flags

pub byte_of_page : (bytes : List ℕ) (areas : List ProgramHeader) (q i : ℕ) (found : Option Page) → i < 256 → IsPage bytes areas q found → IfSome found (λ p. slice_index p.bytes i ≡ byte_at bytes areas (256 * q + i))
byte_of_page bytes areas q i None l h = tt
byte_of_page bytes areas q i (Some p) l h = h.content i l
