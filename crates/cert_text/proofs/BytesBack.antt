-- Bytes in two digits each: what was written is read back, and what was read was written so.
use Rattle.std.proofs.Common.{◌≡◌, ◌∙◌, ℕ, zero, suc, ◌+◌, ◌-◌, ◌*◌, ◌/◌, ◌%◌, ◌<◌, Bool, true, false, ◌&&◌, nat_le, List, [], ◌∷◌, ◌++◌, length, slice_index, None, Some, option_map, refl, sym, ap, arith, codes}
use Rattle.std.specs.Prelude.{if◌then◌else◌}
use Rattle.std.specs.List.{flat_map}
use Rattle.std.proofs.lemmas.Option.{same_Some}
use Rattle.hex.specs.Hex.{encode_lower, encode_with, lower_digits}
use Rattle.leaf_reader.proofs.ItemsFrom.{between, figure, letter}
use Rattle.text_parts.specs.Pieces.{behind}
use Rattle.text_parts.proofs.Options.{map_from, then_from}
use Rattle.cert_text.specs.Legible.{AreInput}
use Rattle.cert_text.specs.LineReading.{byte, digit_worth, input_to_end}
use Rattle.cert_text.proofs.Listed.{all_back, from_all}

-- the digit of a number below 16
abbrev digit_of : ℕ → ℕ
digit_of k = slice_index lower_digits k

worth_back : (k : ℕ) → k < 16 → digit_worth (digit_of k) ≡ Some k
worth_back zero h = refl
worth_back (suc zero) h = refl
worth_back (suc (suc zero)) h = refl
worth_back (suc (suc (suc zero))) h = refl
worth_back (suc (suc (suc (suc zero)))) h = refl
worth_back (suc (suc (suc (suc (suc zero))))) h = refl
worth_back (suc (suc (suc (suc (suc (suc zero)))))) h = refl
worth_back (suc (suc (suc (suc (suc (suc (suc zero))))))) h = refl
worth_back (suc (suc (suc (suc (suc (suc (suc (suc zero)))))))) h = refl
worth_back (suc (suc (suc (suc (suc (suc (suc (suc (suc zero))))))))) h = refl
worth_back (suc (suc (suc (suc (suc (suc (suc (suc (suc (suc zero)))))))))) h = refl
worth_back (suc (suc (suc (suc (suc (suc (suc (suc (suc (suc (suc zero))))))))))) h = refl
worth_back (suc (suc (suc (suc (suc (suc (suc (suc (suc (suc (suc (suc zero)))))))))))) h = refl
worth_back (suc (suc (suc (suc (suc (suc (suc (suc (suc (suc (suc (suc (suc zero))))))))))))) h = refl
worth_back (suc (suc (suc (suc (suc (suc (suc (suc (suc (suc (suc (suc (suc (suc zero)))))))))))))) h = refl
worth_back (suc (suc (suc (suc (suc (suc (suc (suc (suc (suc (suc (suc (suc (suc (suc zero))))))))))))))) h = refl
worth_back (suc (suc (suc (suc (suc (suc (suc (suc (suc (suc (suc (suc (suc (suc (suc (suc k)))))))))))))))) h = absurd (omega (arith, h))

from_worth : (c v : ℕ) → digit_worth c ≡ Some v → (v < 16) × (digit_of v ≡ c)
from_worth c v h = go (nat_le 48 c && nat_le c 57) (nat_le 97 c && nat_le c 102) refl refl h
  where
    go : (a b : Bool) → (nat_le 48 c && nat_le c 57) ≡ a → (nat_le 97 c && nat_le c 102) ≡ b →
        (if a then Some (c - 48) else (if b then Some (c - 87) else None)) ≡ Some v → (v < 16) × (digit_of v ≡ c)
    go true b is_a is_b is =
        let range = between 48 57 c is_a in
        let same : c - 48 ≡ v = same_Some (c - 48) v is in
        let back : 48 + (c - 48) ≡ c = omega (arith, range.0) in
        (omega (arith, same, range.1), ap digit_of (sym same) ∙ figure (c - 48) (omega (arith, range.0, range.1)) ∙ back)
    go false true is_a is_b is =
        let range = between 97 102 c is_b in
        let same : c - 87 ≡ v = same_Some (c - 87) v is in
        let value : v ≡ 10 + (c - 97) = omega (arith, same, range.0) in
        let back : 97 + (c - 97) ≡ c = omega (arith, range.0) in
        (omega (arith, same, range.1), ap digit_of value ∙ letter (c - 97) (omega (arith, range.0, range.1)) ∙ back)
    go false false is_a is_b is = cc

-- the two digits of a byte
abbrev pub byte_text : ℕ → List ℕ
byte_text b = encode_lower (b ∷ [])

bytes_text : (bytes : List ℕ) → encode_lower bytes ≡ flat_map byte_text bytes
unfolding encode_with
bytes_text [] = refl
bytes_text (b ∷ bytes) = ap (λ (t : List ℕ). digit_of (b / 16) ∷ digit_of (b % 16) ∷ t) (bytes_text bytes)

byte_back : (b : ℕ) (rest : List ℕ) → b < 256 → Unit {0} → byte (byte_text b ++ rest) ≡ Some (b, rest)
unfolding byte encode_with
byte_back b rest small on =
    let high : b / 16 < 16 = omega (arith, small) in
    let whole : (b / 16) * 16 + b % 16 ≡ b = omega arith in
    rw (worth_back (b / 16) high, worth_back (b % 16) (omega arith), whole) refl

from_byte : (text : List ℕ) (b : ℕ) (rest : List ℕ) → byte text ≡ Some (b, rest) → (text ≡ byte_text b ++ rest) × (b < 256)
unfolding byte encode_with
from_byte [] b rest h = cc
from_byte (c ∷ []) b rest h = cc
from_byte (c ∷ d ∷ text) b rest h =
    let x = then_from (λ (high : ℕ). option_map (λ (low : ℕ). (high * 16 + low, text)) (digit_worth d)) (digit_worth c) (b, rest) h in
    let y = map_from (λ (low : ℕ). (x.0 * 16 + low, text)) (digit_worth d) (b, rest) x.2 in
    let high = from_worth c x.0 x.1 in
    let low = from_worth d y.0 y.1 in
    let value : x.0 * 16 + y.0 ≡ b = ap (λ (p : ℕ × List ℕ). p.0) y.2 in
    let end : text ≡ rest = ap (λ (p : ℕ × List ℕ). p.1) y.2 in
    let top : b / 16 ≡ x.0 = omega (arith, value, low.0) in
    let bottom : b % 16 ≡ y.0 = omega (arith, value, low.0) in
    (rw (top, bottom, high.1, low.1) (ap (λ (t : List ℕ). c ∷ d ∷ t) end), omega (arith, value, high.0, low.0))

feed_digit : (k : ℕ) → k < 16 → (t : List ℕ) → behind (codes "\n") (digit_of k ∷ t) ≡ None
unfolding behind
feed_digit zero h t = refl
feed_digit (suc zero) h t = refl
feed_digit (suc (suc zero)) h t = refl
feed_digit (suc (suc (suc zero))) h t = refl
feed_digit (suc (suc (suc (suc zero)))) h t = refl
feed_digit (suc (suc (suc (suc (suc zero))))) h t = refl
feed_digit (suc (suc (suc (suc (suc (suc zero)))))) h t = refl
feed_digit (suc (suc (suc (suc (suc (suc (suc zero))))))) h t = refl
feed_digit (suc (suc (suc (suc (suc (suc (suc (suc zero)))))))) h t = refl
feed_digit (suc (suc (suc (suc (suc (suc (suc (suc (suc zero))))))))) h t = refl
feed_digit (suc (suc (suc (suc (suc (suc (suc (suc (suc (suc zero)))))))))) h t = refl
feed_digit (suc (suc (suc (suc (suc (suc (suc (suc (suc (suc (suc zero))))))))))) h t = refl
feed_digit (suc (suc (suc (suc (suc (suc (suc (suc (suc (suc (suc (suc zero)))))))))))) h t = refl
feed_digit (suc (suc (suc (suc (suc (suc (suc (suc (suc (suc (suc (suc (suc zero))))))))))))) h t = refl
feed_digit (suc (suc (suc (suc (suc (suc (suc (suc (suc (suc (suc (suc (suc (suc zero)))))))))))))) h t = refl
feed_digit (suc (suc (suc (suc (suc (suc (suc (suc (suc (suc (suc (suc (suc (suc (suc zero))))))))))))))) h t = refl
feed_digit (suc (suc (suc (suc (suc (suc (suc (suc (suc (suc (suc (suc (suc (suc (suc (suc k)))))))))))))))) h t = absurd (omega (arith, h))

no_feed : (b : ℕ) (rest : List ℕ) → b < 256 → Unit {0} → behind (codes "\n") (byte_text b ++ rest) ≡ None
unfolding encode_with
no_feed b rest small on = feed_digit (b / 16) (omega (arith, small)) (digit_of (b % 16) ∷ rest)

some_byte : (b : ℕ) → 0 < length (byte_text b)
unfolding encode_with
some_byte b = omega arith

-- ---- up to the end of a line

pub input_back : (input rest : List ℕ) → AreInput input → input_to_end (encode_lower input ++ (codes "\n" ++ rest)) ≡ Some (input, rest)
input_back input rest bytes =
    ap (λ (t : List ℕ). input_to_end (t ++ (codes "\n" ++ rest))) (bytes_text input)
    ∙ all_back byte byte_text (codes "\n") (λ b. b < 256) (λ t. Unit {0}) byte_back (λ b t. tt) no_feed some_byte input rest bytes tt

pub from_input : (text input rest : List ℕ) → input_to_end text ≡ Some (input, rest) →
    (text ≡ encode_lower input ++ (codes "\n" ++ rest)) × AreInput input
from_input text input rest h =
    let a = from_all byte byte_text (codes "\n") (λ b. b < 256) from_byte text input rest h in
    (a.0 ∙ ap (λ (t : List ℕ). t ++ (codes "\n" ++ rest)) (sym (bytes_text input)), a.1)
