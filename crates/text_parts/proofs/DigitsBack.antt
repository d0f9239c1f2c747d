-- Digits that were written: no zero leads, and eight hexadecimal ones are read back.
use Rattle.std.proofs.Common.{◌≡◌, ◌∙◌, ℕ, zero, suc, ◌<◌, ◌/◌, ◌%◌, ◌^◌, Bool, true, false, ◌||◌, List, [], ◌∷◌, length, get_or, slice_index, Some, Ok, refl, ap, decimal, arith}
use Rattle.std.specs.Char.{is_ascii_uppercase}
use Rattle.std.specs.Int.{byte_at, bytes_high_first, to_be_bytes, w32}
use Rattle.std.specs.List.{list_any}
use Rattle.std.proofs.lemmas.Bool.Decides.{nat_tests}
use Rattle.std.proofs.lemmas.Fmt.{decimal_digit, first_decimal}
use Rattle.std.proofs.lemmas.Nat.{from_be_bytes-to_be_bytes_4}
use Rattle.hex.specs.Hex.{IsBytes, decode_of, decode_sized, encode_lower, encode_with, lower_digits}
use Rattle.hex.proofs.HexLemmas.{decode_of-encode_lower, decode_of-same, decode_sized-encode_lower, length-encode_with}
use Rattle.text_parts.specs.Digits.{has_leading_zero, hex_number}
use Rattle.text_parts.specs.Names.{eight_digits}

-- ---- no zero leads

leads_not : (digits : List ℕ) → 48 < get_or digits 0 0 → has_leading_zero digits ≡ false
leads_not [] first = refl
leads_not (a ∷ []) first = refl
leads_not (a ∷ b ∷ rest) first = grind (arith, nat_tests, first)

pub no_leading_zero : (n : ℕ) → n < 2 ^ 64 → has_leading_zero (decimal n) ≡ false
no_leading_zero zero small = rw (decimal_digit 0 (omega arith)) refl
no_leading_zero (suc n) small = leads_not (decimal (suc n)) (first_decimal (suc n) (omega arith) small)

-- ---- eight hexadecimal digits

pub none_at : (p : ℕ → Bool) → p 0 ≡ false → (xs : List ℕ) (k : ℕ) → list_any p xs ≡ false → p (get_or xs k 0) ≡ false
none_at p at_zero [] k none = at_zero
none_at p at_zero (x ∷ xs) zero none = first (p x) (list_any p xs) none
  where
    first : (a b : Bool) → (a || b) ≡ false → a ≡ false
    first false b is = refl
    first true b is = is
none_at p at_zero (x ∷ xs) (suc k) none = none_at p at_zero xs k (later (p x) (list_any p xs) none)
  where
    later : (a b : Bool) → (a || b) ≡ false → b ≡ false
    later false b is = is
    later true b is = cc

lower_digit : (k : ℕ) → is_ascii_uppercase (slice_index lower_digits k) ≡ false
lower_digit k = none_at is_ascii_uppercase refl lower_digits k refl

no_upper_case : (bytes : List ℕ) → list_any is_ascii_uppercase (encode_lower bytes) ≡ false
unfolding encode_with
no_upper_case [] = refl
no_upper_case (b ∷ bytes) = rw (lower_digit (b / 16), lower_digit (b % 16)) (no_upper_case bytes)

byte_fits : (k n : ℕ) → byte_at k n < 256
byte_fits zero n = omega arith
byte_fits (suc k) n = omega arith

high_first_bytes : (k n : ℕ) → IsBytes (bytes_high_first k n)
high_first_bytes zero n i = omega arith
high_first_bytes (suc k) n zero = byte_fits k n
high_first_bytes (suc k) n (suc i) = high_first_bytes k n i

pub length_eight : (n : ℕ) → length (eight_digits n) ≡ 8
length_eight n = length-encode_with lower_digits (to_be_bytes w32 n)

pub hex_back : (n : ℕ) → n < 2 ^ 32 → hex_number (eight_digits n) ≡ Some n
unfolding hex_number
hex_back n small =
    let plain = no_upper_case (to_be_bytes w32 n) in
    let bytes : decode_sized (eight_digits n) 4 ≡ Ok (to_be_bytes w32 n) =
    decode_sized-encode_lower (to_be_bytes w32 n) 4 refl (high_first_bytes 4 n) in
    rw (plain, bytes) (ap Some (from_be_bytes-to_be_bytes_4 n small))

-- bytes are told by their digits
pub bytes_by_digits : (a b : List ℕ) → IsBytes a → IsBytes b → encode_lower a ≡ encode_lower b → a ≡ b
bytes_by_digits a b bytes also e =
    decode_of-same (encode_lower a) a b (decode_of-encode_lower a bytes) (ap decode_of e ∙ decode_of-encode_lower b also)
