-- The memory of the machine under test: the pages of an image, 256 bytes each, with the input bytes in their regions.
use Rattle.std.specs.Prelude.{◌≡◌, ℕ, ◌+◌, ◌-◌, ◌*◌, ◌/◌, ◌%◌, ◌^◌, ◌==◌, ◌<◌, ◌&&◌, Bool, false, nat_lt, nat_le, if◌then◌else◌, List, [], ◌∷◌, All, length, drop, slice_index, Option, Some, None, is_some}
use Rattle.std.specs.FinMap.{get}
use Rattle.std.specs.Option.{option_map}
use Rattle.elf_load.specs.Images.{Image, byte_in}
use Rattle.elf_load.specs.declared.region.Region.{Region}

-- the flags of a page of the image, if it is mapped: 1 it can be executed, 2 written, 4 read
abbrev pub flags_of : Image → ℕ → Option ℕ
flags_of image page = option_map (λ p. p.flags) (get image.pages page)

-- the byte of the image at an address, 0 where no page is mapped
unfoldable pub byte_of : Image → ℕ → ℕ
byte_of image address = byte_in (get image.pages (address / 256)) (address % 256)

abbrev pub is_mapped : (ℕ → Option ℕ) → ℕ → Bool
is_mapped flags address = is_some (flags (address / 256))

abbrev pub has_x : Option ℕ → Bool
has_x None = false
has_x (Some flags) = flags % 2 == 1

abbrev pub has_w : Option ℕ → Bool
has_w None = false
has_w (Some flags) = flags / 2 % 2 == 1

-- instructions can be executed at an address
abbrev pub can_execute : (ℕ → Option ℕ) → ℕ → Bool
can_execute flags address = has_x (flags (address / 256))

abbrev pub can_write : (ℕ → Option ℕ) → ℕ → Bool
can_write flags address = has_w (flags (address / 256))

abbrev pub count_of : List Region → ℕ
count_of [] = 0
count_of (r ∷ rs) = r.count + count_of rs

-- one byte for each place of the regions
abbrev pub IsAssignment : List Region → List ℕ → Type 0
IsAssignment regions input = (length input ≡ count_of regions) × All (λ b. b < 256) input

-- the address is one of a region's
abbrev pub is_in : Region → ℕ → Bool
is_in r address = nat_le r.start address && nat_lt address (r.start + r.count)

-- memory with the input bytes in the regions, in their order
abbrev pub placed : List Region → List ℕ → (ℕ → ℕ) → ℕ → ℕ
placed [] input byte = byte
placed (r ∷ rs) input byte =
    placed rs (drop r.count input)
    (λ x. if is_in r x then slice_index input (x - r.start) else byte x)

-- the half word and the word at an address, low byte first
abbrev pub half_at : (ℕ → ℕ) → ℕ → ℕ
half_at byte address = byte address + 2 ^ 8 * byte (address + 1)

abbrev pub word_at : (ℕ → ℕ) → ℕ → ℕ
word_at byte address = byte address + 2 ^ 8 * byte (address + 1) + 2 ^ 16 * byte (address + 2)
    + 2 ^ 24 * byte (address + 3)

-- memory with these bytes from an address on
abbrev pub with_bytes : (ℕ → ℕ) → ℕ → List ℕ → ℕ → ℕ
with_bytes byte address [] = byte
with_bytes byte address (b ∷ bs) =
    with_bytes (λ at. if at == address then b else byte at) (address + 1) bs
