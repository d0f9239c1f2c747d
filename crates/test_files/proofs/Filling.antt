-- Regions with their bytes, and the regions and the input that they make.
use Rattle.std.proofs.Common.{◌≡◌, ◌∙◌, ◌+◌, ◌<◌, ◌^◌, ℕ, zero, suc, List, [], ◌∷◌, ◌++◌, drop, length, map, take, Some, refl, ap, ap₂, arith, take-append-drop, length-append, length-take-le, length-drop}
use Rattle.std.specs.List.{All}
use Rattle.std.proofs.lemmas.List.Sums.{sum_by-cons}
use Rattle.hex.specs.Hex.{IsBytes, encode_lower}
use Rattle.hex.proofs.HexLemmas.{decode_of-encode_lower}
use Rattle.elf_load.specs.Regions.{put_first}
use Rattle.elf_load.specs.declared.region.Region.{Region}
use Rattle.test_files.specs.Inputs.{Item, all_filled, bytes_in, filled_with, if_decoded, input_filled, regions_filled}
use Rattle.test_files.specs.Tests.{Filled, filled}

-- ---- what regions with their bytes make

-- one more region
pub bytes_more : (region : Region) (regions : List Region) → bytes_in (region ∷ regions) ≡ region.count + bytes_in regions
bytes_more region regions = sum_by-cons (λ (r : Region). r.count) region regions

first_whole : (region : Region) (regions : List Region) (input : List ℕ) → length input ≡ bytes_in (region ∷ regions) → length (take region.count input) ≡ region.count
first_whole region regions input long = length-take-le region.count input (omega (arith, long, bytes_more region regions))

others_whole : (region : Region) (regions : List Region) (input : List ℕ) → length input ≡ bytes_in (region ∷ regions) → length (drop region.count input) ≡ bytes_in regions
others_whole region regions input long = omega (arith, long, bytes_more region regions, length-drop region.count input)

pub regions_of_filled : (regions : List Region) (input : List ℕ) → length input ≡ bytes_in regions → regions_filled (filled regions input) ≡ regions
regions_of_filled [] input long = refl
regions_of_filled (region ∷ regions) input long =
    ap₂ (λ (n : ℕ) (others : List Region). (record { start = region.start; count = n }) ∷ others)
    (first_whole region regions input long)
    (regions_of_filled regions (drop region.count input) (others_whole region regions input long))

nothing : (input : List ℕ) → length input ≡ 0 → [] ≡ input
nothing [] none = refl
nothing (b ∷ input) none = absurd (omega (arith, none))

pub input_of_filled : (regions : List Region) (input : List ℕ) → length input ≡ bytes_in regions → input_filled (filled regions input) ≡ input
input_of_filled [] input long = nothing input long
input_of_filled (region ∷ regions) input long =
    ap (λ (others : List ℕ). take region.count input ++ others)
    (input_of_filled regions (drop region.count input) (others_whole region regions input long))
    ∙ take-append-drop region.count input

-- as many bytes as places
pub as_many_bytes : (regions : List Filled) → length (input_filled regions) ≡ bytes_in (regions_filled regions)
as_many_bytes [] = refl
as_many_bytes (region ∷ regions) =
    omega (arith, length-append-here region regions, as_many_bytes regions, bytes_more (record { start = region.start; count = length region.bytes }) (regions_filled regions))
  where
    length-append-here : (region : Filled) (regions : List Filled) → length (input_filled (region ∷ regions)) ≡ length region.bytes + length (input_filled regions)
    length-append-here region regions = length-append region.bytes (input_filled regions)

-- ---- the parts of an input

bytes_take : (n : ℕ) (xs : List ℕ) → IsBytes xs → IsBytes (take n xs)
bytes_take zero xs bytes i = omega arith
bytes_take (suc n) [] bytes i = omega arith
bytes_take (suc n) (x ∷ xs) bytes zero = bytes 0
bytes_take (suc n) (x ∷ xs) bytes (suc i) = bytes_take n xs (λ k. bytes (suc k)) i

bytes_drop : (n : ℕ) (xs : List ℕ) → IsBytes xs → IsBytes (drop n xs)
bytes_drop zero xs bytes i = bytes i
bytes_drop (suc n) [] bytes i = omega arith
bytes_drop (suc n) (x ∷ xs) bytes i = bytes_drop n xs (λ k. bytes (suc k)) i

pub starts_of_filled : (regions : List Region) (input : List ℕ) → All (λ (r : Region). r.start < 2 ^ 32) regions → All (λ (f : Filled). f.start < 2 ^ 32) (filled regions input)
starts_of_filled [] input starts k d within = absurd (omega (arith, within))
starts_of_filled (region ∷ regions) input starts zero d within = starts 0 region (omega arith)
starts_of_filled (region ∷ regions) input starts (suc k) d within =
    starts_of_filled regions (drop region.count input) (λ i r lt. starts (suc i) r (omega (arith, lt))) k d (omega (arith, within))

pub bytes_of_filled : (regions : List Region) (input : List ℕ) → IsBytes input → All (λ (f : Filled). IsBytes f.bytes) (filled regions input)
bytes_of_filled [] input bytes k d within = absurd (omega (arith, within))
bytes_of_filled (region ∷ regions) input bytes zero d within = bytes_take region.count input bytes
bytes_of_filled (region ∷ regions) input bytes (suc k) d within =
    bytes_of_filled regions (drop region.count input) (bytes_drop region.count input bytes) k d (omega (arith, within))

-- ---- their digits

-- a region with the digits of its bytes
abbrev pub item_of : Filled → Item
item_of region = record { start = region.start; digits = encode_lower region.bytes }

pub filled_back : (regions : List Filled) → All (λ (f : Filled). IsBytes f.bytes) regions → all_filled (map item_of regions) ≡ Some regions
filled_back [] bytes = refl
filled_back (region ∷ regions) bytes =
    ap₂ (λ r o. put_first (filled_with region.start (if_decoded r)) o)
    (decode_of-encode_lower region.bytes (bytes 0 region (omega arith)))
    (filled_back regions (λ k d lt. bytes (suc k) d (omega (arith, lt))))
