-- Which regions of input bytes fit an image, and why others do not: each row's test, and the first row whose test holds.
use Rattle.std.specs.Prelude.{ℕ, ◌+◌, ◌/◌, ◌==◌, nat_lt, Bool, not, ◌&&◌, if◌then◌else◌, List, length, sum_by, Option, Some, None}
use Rattle.std.specs.FinMap.{contains_key}
use Rattle.std.specs.List.{list_any, range_with_len}
use Rattle.elf_load.specs.Areas.{any_pair}
use Rattle.elf_load.specs.Images.{Image}
use Rattle.elf_load.specs.declared.region.Region.{Region}
use Rattle.elf_load.specs.declared.unfit.Unfit.{Unfit}
use Rattle.elf_load.specs.declared.unfit.Unfit.TheVariants.{TooMany, Empty, TooLong, Unmapped, Overlap}

-- an address of memory, on a mapped page
abbrev pub is_in_image : Image → ℕ → Bool
is_in_image image address = nat_lt address 4294967296 && contains_key image.pages (address / 256)

-- one of its bytes is on no mapped page
abbrev pub is_unmapped : Image → Region → Bool
is_unmapped image r = list_any (λ address. not (is_in_image image address))
    (range_with_len r.start r.count)

-- two regions share an address
abbrev pub share_byte : Region → Region → Bool
share_byte r s = nat_lt r.start (s.start + s.count) && nat_lt s.start (r.start + r.count)

-- more than eight
abbrev pub unfit_too_many : List Region → Bool
unfit_too_many rs = nat_lt 8 (length rs)

-- one of no bytes
abbrev pub unfit_empty : List Region → Bool
unfit_empty rs = list_any (λ r. r.count == 0) rs

-- more than 1,024 bytes in all
abbrev pub unfit_too_long : List Region → Bool
unfit_too_long rs = nat_lt 1024 (sum_by (λ r. r.count) rs)

-- one with a byte on no mapped page
abbrev pub unfit_unmapped : Image → List Region → Bool
unfit_unmapped image rs = list_any (is_unmapped image) rs

-- two that share an address
abbrev pub unfit_overlap : List Region → Bool
unfit_overlap rs = any_pair share_byte rs

-- why regions do not fit an image
unfoldable pub unfit : Image → List Region → Option Unfit
unfit image rs =
    if unfit_too_many rs then Some TooMany else
    if unfit_empty rs then Some Empty else
    if unfit_too_long rs then Some TooLong else
    if unfit_unmapped image rs then Some Unmapped else
    if unfit_overlap rs then Some Overlap else
    None
