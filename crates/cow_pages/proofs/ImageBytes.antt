-- The bytes of an image, as its pages are looked at one after the other.
use Rattle.std.proofs.Common.{ℕ, zero, suc, ◌/◌, ◌%◌, ◌<◌, List, [], ◌∷◌, sym, subst, arith}
use Rattle.std.proofs.lemmas.List.Elements.{All-head, All-tail}
use Rattle.std.proofs.lemmas.Map.Entries.{All-lookup}
use Rattle.std.specs.FinMap.{entries, get, get-entries}
use Rattle.std.specs.Ordering.{is_eq, nat_cmp}
use Rattle.std.specs.Prelude.{All, IfSome, None, Option, Some, slice_index}
use Rattle.elf_load.specs.Images.{Image, byte_in}
use Rattle.elf_load.specs.declared.page.Page.{Page}
use Rattle.rv_spec.specs.Memory.{byte_of}

-- the page of an entry has bytes
abbrev pub IsOfBytes : ℕ × Page → Type 0
IsOfBytes e = All (λ b. b < 256) e.1.bytes

-- also past the end, where a list is said to have zeros
byte_at : (bytes : List ℕ) (i : ℕ) → All (λ b. b < 256) bytes → slice_index bytes i < 256
byte_at [] i all = omega arith
byte_at (b ∷ bytes) zero all = All-head (λ n. n < 256) b bytes all
byte_at (b ∷ bytes) (suc i) all = byte_at bytes i (All-tail (λ n. n < 256) b bytes all)

byte_found : (found : Option Page) (i : ℕ) → IfSome found (λ p. All (λ b. b < 256) p.bytes) → byte_in found i < 256
byte_found None i has = omega arith
byte_found (Some p) i has = byte_at p.bytes i has

pub image_small : (image : Image) → All IsOfBytes (entries image.pages) → (address : ℕ) → byte_of image address < 256
unfolding byte_of
image_small image all address =
    byte_found (get image.pages (address / 256)) (address % 256)
    (subst (λ found. IfSome found (λ p. All (λ b. b < 256) p.bytes)) (sym (get-entries image.pages (address / 256)))
    (All-lookup (λ p. All (λ b. b < 256) p.bytes) (λ k. is_eq (nat_cmp (address / 256) k)) (entries image.pages) all))
