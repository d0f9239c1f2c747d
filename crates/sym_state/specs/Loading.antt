-- What a load makes of a run's terms. Where its address is a term, its page is known, and each byte is
-- a choice among those of the page by the bits of the address.
use Rattle.std.specs.Prelude.{ℕ, zero, suc, ◌+◌, ◌-◌, ◌*◌, ◌/◌, ◌^◌, ◌==◌, ◌&&◌, Bool, true, false, List, [], ◌∷◌, length, if◌then◌else◌, Option, Some, None}
use Rattle.rv_decode.specs.declared.ops.LoadWidth.{LoadWidth}
use Rattle.rv_decode.specs.declared.ops.LoadWidth.TheVariants.{Lb, Lh, Lw, Lbu, Lhu}
use Rattle.rv_spec.specs.Arithmetic.{sum32}
use Rattle.rv_spec.specs.Machine.{is_load_aligned}
use Rattle.term_trees.specs.Trees.{Tree, tree_width}
use Rattle.sym_state.specs.Expressions.{Expression, Number, Unknown, bit_in, byte_choice, widened_byte, widened_half, word_of}
use Rattle.sym_state.specs.Indexing.{Index}

-- what is loaded, low byte first
abbrev pub loaded : LoadWidth → (ℕ → Expression) → ℕ → Expression
loaded Lb byte address = widened_byte true (byte address)
loaded Lh byte address = widened_half true (byte address) (byte (address + 1))
loaded Lw byte address =
    word_of (byte address) (byte (address + 1)) (byte (address + 2)) (byte (address + 3))
loaded Lbu byte address = widened_byte false (byte address)
loaded Lhu byte address = widened_half false (byte address) (byte (address + 1))

-- ---- A choice of places.
-- so many bits of a term from one on, the highest first
abbrev pub bits_of : (first count : ℕ) → Tree → List Expression
bits_of first zero t = []
bits_of first (suc n) t = bit_in (first + n) t ∷ bits_of first n t

-- what stands at the further of two places where a bit is 1, and else at the nearer one; where one of
-- them can't be come to, what stands at the other
abbrev pub chosen : (bit : Expression) → (further nearer : Option Expression) → Option Expression
chosen (Number bit) further nearer = if bit == 1 then further else nearer
chosen (Unknown c) (Some s) (Some t) = Some (byte_choice c s t)
chosen (Unknown c) (Some s) None = Some s
chosen (Unknown c) None nearer = nearer

-- what stands where bits lead from a place on: the last by 2 ^ scale, and each before it twice as far
abbrev pub selected : (scale : ℕ) → (byte : ℕ → Option Expression) → List Expression → (start : ℕ)
    → Option Expression
selected scale byte [] start = byte start
selected scale byte (bit ∷ bits) start =
    chosen bit (selected scale byte bits (sum32 start (2 ^ (scale + length bits))))
    (selected scale byte bits start)

-- ---- A load by a term.
-- so many low bits of an aligned address are 0
abbrev pub zero_bits : LoadWidth → ℕ
zero_bits Lb = 0
zero_bits Lh = 1
zero_bits Lw = 2
zero_bits Lbu = 0
zero_bits Lhu = 1

-- so many bytes are loaded
abbrev pub bytes : LoadWidth → ℕ
bytes Lb = 1
bytes Lh = 2
bytes Lw = 4
bytes Lbu = 1
bytes Lhu = 2

-- a load from an address takes it from this page, and isn't misaligned
abbrev pub is_place : LoadWidth → (page address : ℕ) → Bool
is_place width page address = (address / 256 == page) && is_load_aligned width address

-- the byte that is so far behind an address
abbrev pub byte_behind : (byte : ℕ → Expression) → LoadWidth → (page by address : ℕ) → Option Expression
byte_behind byte width page by address =
    if is_place width page address then Some (byte (address + by)) else None

abbrev pub or_zero : Option Expression → Expression
or_zero (Some e) = e
or_zero None = Number 0

-- ---- How an address on a page is come to.
-- by so many bits of a term from the first on, the lowest of which leads on by 2 ^ scale
pub record Way : Type 0 where
  pub term : Tree
  pub first : ℕ
  pub count : ℕ
  pub scale : ℕ
  pub start : ℕ

-- by the index that the address is by, and else from the start of the page by the address's own bits
abbrev pub way_by : Option Index → LoadWidth → (page : ℕ) → Tree → Way
way_by (Some i) width page t = record {
  term = i.term;
  first = 0;
  count = tree_width i.term;
  scale = i.scale;
  start = i.start;
}
way_by None width page t = record {
  term = t;
  first = zero_bits width;
  count = 8 - zero_bits width;
  scale = zero_bits width;
  start = 256 * page;
}

abbrev pub byte_along : (byte : ℕ → Expression) → LoadWidth → (page : ℕ) → Way → (by : ℕ) → Expression
byte_along byte width page way by =
    or_zero (selected way.scale (byte_behind byte width page by)
    (bits_of way.first way.count way.term) way.start)

-- what is loaded along a way
abbrev pub loaded_along : LoadWidth → (ℕ → Expression) → (page : ℕ) → Way → Expression
loaded_along width byte page way = loaded width (byte_along byte width page way) 0
