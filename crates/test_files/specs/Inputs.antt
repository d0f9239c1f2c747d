-- The regions and the input bytes that a test says: in format 1 the regions and one text of digits, in format 2 each region with its own.
use Rattle.std.specs.Prelude.{ℕ, Bool, ◌&&◌, ◌==◌, nat_le, if◌then◌else◌, List, [], ◌∷◌, length, map, sum_by, Option, None, Some, option_map, Result, Ok, Err}
use Rattle.std.specs.List.{flat_map, list_all}
use Rattle.hex.specs.Hex.{decode_of}
use Rattle.hex.specs.declared.error.FromHexError.{FromHexError}
use Rattle.elf_load.specs.Regions.{put_first}
use Rattle.elf_load.specs.declared.region.Region.{Region}
use Rattle.test_files.specs.Tests.{Filled}
use Rattle.test_files.specs.declared.refused.TestRefused.{TestRefused}
use Rattle.test_files.specs.declared.refused.TestRefused.TheVariants.{Hex, Length}

-- a region and the hexadecimal digits of its bytes
pub record Item : Type 0 where
  pub start : ℕ
  pub digits : List ℕ

pub data Inputs : Type 0 where
  -- format 1
  joined : List Region → (digits : List ℕ) → Inputs
  -- format 2
  apart : List Item → Inputs

-- regions, and a byte for each place of them
pub record Laid : Type 0 where
  pub regions : List Region
  pub input : List ℕ

-- how many bytes regions have
abbrev pub bytes_in : List Region → ℕ
bytes_in regions = sum_by (λ region. region.count) regions

-- some region, each with a byte or more, and at most 1,024 bytes in all
abbrev pub has_inputs : List Region → Bool
has_inputs regions = nat_le 1 (length regions)
    && list_all (λ region. nat_le 1 region.count) regions && nat_le (bytes_in regions) 1024

-- what decoding gave, if it gave anything
abbrev pub if_decoded : Result (List ℕ) FromHexError → Option (List ℕ)
if_decoded (Ok bytes) = Some bytes
if_decoded (Err why) = None

-- the bytes that hexadecimal digits of either case write, two digits a byte
abbrev pub bytes_written : (digits : List ℕ) → Option (List ℕ)
bytes_written digits = if_decoded (decode_of digits)

-- ---- format 1

-- the bytes stand in the regions, one at each place
abbrev pub laid_joined : List Region → Option (List ℕ) → Result Laid TestRefused
laid_joined regions (Some input) =
    if length input == bytes_in regions
    then Ok (record { regions = regions; input = input }) else Err Length
laid_joined regions None = Err Hex

-- ---- format 2

-- the region with its bytes
abbrev pub filled_with : ℕ → Option (List ℕ) → Option Filled
filled_with start bytes = option_map (λ bytes. record { start = start; bytes = bytes }) bytes

-- each region with its bytes, where all digits are hexadecimal
abbrev pub all_filled : List Item → Option (List Filled)
all_filled [] = Some []
all_filled (item ∷ items) =
    put_first (filled_with item.start (bytes_written item.digits)) (all_filled items)

-- each region has as many places as bytes
abbrev pub regions_filled : List Filled → List Region
regions_filled regions =
    map (λ region. record { start = region.start; count = length region.bytes }) regions

-- the bytes of all regions in their order
abbrev pub input_filled : List Filled → List ℕ
input_filled regions = flat_map (λ region. region.bytes) regions

abbrev pub laid_apart : Option (List Filled) → Result Laid TestRefused
laid_apart (Some regions) =
    if has_inputs (regions_filled regions)
    then Ok (record { regions = regions_filled regions; input = input_filled regions })
    else Err Length
laid_apart None = Err Hex

-- ---- both

-- the regions and the bytes, or why there are none: first that digits aren't hexadecimal, then the length
abbrev pub laid : Inputs → Result Laid TestRefused
laid (joined regions digits) = laid_joined regions (bytes_written digits)
laid (apart items) = laid_apart (all_filled items)
