-- The regions of input bytes, as words name them.
use Rattle.std.specs.Prelude.{ℕ, Bool, List, [], ◌∷◌, ◌&&◌, ◌==◌, length, take, drop, nat_le, Option, None, Some, if◌then◌else◌, slice_index}
use Rattle.std.specs.Char.{is_digit}
use Rattle.std.specs.List.{list_all}
use Rattle.std.specs.Str.Parse.{digits_value}
use Rattle.elf_load.specs.Regions.{put_first, region_with}
use Rattle.elf_load.specs.declared.region.Region.{Region}

-- the number that digits write in a base up to 36, with letters of either case, the first digit the
-- highest
unfoldable pub digits_number : ℕ → List ℕ → Option ℕ
digits_number base digits =
    if list_all (λ digit. is_digit digit base) digits then Some (digits_value base digits) else None

-- the colon (58) stands after eight digits and before one to four
abbrev pub has_colon : List ℕ → Bool
has_colon word = nat_le 10 (length word) && nat_le (length word) 13 && slice_index word 8 == 58

-- `hhhhhhhh:n`: eight hexadecimal digits of either case, a colon, one to four decimal digits
unfoldable pub region_said : List ℕ → Option Region
region_said word =
    if has_colon word then region_with (digits_number 16 (take 8 word))
    (digits_number 10 (drop 9 word))
    else None

-- the region of each word, where each names one
unfoldable pub regions_said : List (List ℕ) → Option (List Region)
regions_said [] = Some []
regions_said (word ∷ words) = put_first (region_said word) (regions_said words)
