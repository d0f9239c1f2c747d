-- The digits of numbers, as texts have them: whether a zero leads, and eight hexadecimal digits.
use Rattle.std.specs.Prelude.{ℕ, Bool, false, ◌==◌, if◌then◌else◌, List, ◌∷◌, Option, None, Some, Result, Ok, Err}
use Rattle.std.specs.Char.{is_ascii_uppercase}
use Rattle.std.specs.Int.{from_be_bytes, w32}
use Rattle.std.specs.List.{list_any}
use Rattle.hex.specs.Hex.{decode_sized}
use Rattle.hex.specs.declared.error.FromHexError.{FromHexError}

-- a zero (48) stands before other digits
abbrev pub has_leading_zero : List ℕ → Bool
has_leading_zero (first ∷ second ∷ rest) = first == 48
has_leading_zero _ = false

-- the number that four bytes are, the highest first
abbrev pub number_of_bytes : Result (List ℕ) FromHexError → Option ℕ
number_of_bytes (Ok bytes) = Some (from_be_bytes w32 bytes)
number_of_bytes (Err why) = None

abbrev pub has_upper_case : List ℕ → Bool
has_upper_case text = list_any is_ascii_uppercase text

-- the number that eight hexadecimal digits with no upper-case letter say
unfoldable pub hex_number : (digits : List ℕ) → Option ℕ
hex_number digits =
    if has_upper_case digits then None else number_of_bytes (decode_sized digits 4)
