-- A plain number is what `{}` writes.
use Rattle.std.proofs.Common.{ℕ, zero, suc, Bool, true, false, List, [], ◌∷◌, ◌≡◌, ◌≢◌, ◌∙◌, ◌<◌, ◌^◌, length, get_or, Some, None, refl, sym, ap, rules, arith}
use Rattle.std.specs.Prelude.{◌↔◌, if◌then◌else◌}
use Rattle.std.specs.Char.{is_digit}
use Rattle.std.specs.Fmt.{decimal}
use Rattle.std.specs.List.{list_all}
use Rattle.std.specs.Str.Parse.{AllDigits, digits_value}
use Rattle.std.proofs.lemmas.Fmt.{decimal-digits_value, decimal_digit, decimal_is_IsNumeral, first_decimal}
use Rattle.std.proofs.lemmas.Str.Parse.{numerals_by_value, tells_digits}
use Rattle.tool_words.specs.Limits.{has_leading_zero, plain_number}
use Rattle.tool_words.specs.Region.{digits_number}
use Rattle.tool_words.proofs.Numbers.{all_digits}
use Rattle.tool_words.proofs.PlainNumbers.{from_all, plain}

stands_alone : (first : ℕ) (rest : List ℕ) → has_leading_zero (first ∷ rest) ≡ false → first ≡ 48 → length (first ∷ rest) ≡ 1
stands_alone first [] none is = refl
stands_alone first (second ∷ rest) none is = absurd (search (rules, none, is))

number_written : (value : List ℕ) (n : ℕ) → n < 2 ^ 64 → 0 < length value → (get_or value 0 0 ≡ 48 → length value ≡ 1) → digits_number 10 value ≡ Some n → value ≡ decimal n
unfolding digits_number
number_written value n small some lead is = go (list_all (λ d. is_digit d 10) value) refl (from_all value) (λ all. decimal-digits_value (numerals_by_value _ tells_digits) value all some lead) is
  where
    go : (b : Bool) → list_all (λ d. is_digit d 10) value ≡ b → (list_all (λ d. is_digit d 10) value ≡ true → AllDigits 10 value) → (AllDigits 10 value → digits_value 10 value < 2 ^ 64 → decimal (digits_value 10 value) ≡ value)
        → (if b then Some (digits_value 10 value) else None) ≡ Some n → value ≡ decimal n
    go true all digits written is =
        let same : digits_value 10 value ≡ n = cc in
        let below : digits_value 10 value < 2 ^ 64 = rw same small in
        sym (written (digits all) below) ∙ ap decimal same
    go false all digits written is = cc

written : (text : List ℕ) (n : ℕ) → n < 2 ^ 64 → plain_number text ≡ Some n → text ≡ decimal n
unfolding plain_number
written [] n small is = cc
written (first ∷ rest) n small is = go (has_leading_zero (first ∷ rest)) refl (number_written (first ∷ rest) n small (omega arith)) (stands_alone first rest) is
  where
    go : (b : Bool) → has_leading_zero (first ∷ rest) ≡ b → ((first ≡ 48 → length (first ∷ rest) ≡ 1) → digits_number 10 (first ∷ rest) ≡ Some n → (first ∷ rest) ≡ decimal n)
        → (has_leading_zero (first ∷ rest) ≡ false → first ≡ 48 → length (first ∷ rest) ≡ 1)
        → (if b then None else digits_number 10 (first ∷ rest)) ≡ Some n → (first ∷ rest) ≡ decimal n
    go true leads number alone is = cc
    go false leads number alone is = number (alone leads) is

read_back : (n : ℕ) → n < 2 ^ 64 → plain_number (decimal n) ≡ Some n
unfolding plain_number digits_number
read_back zero small =
    let alone : decimal 0 ≡ 48 ∷ [] = decimal_digit 0 (omega arith) in
    rw alone refl
read_back (suc m) small =
    let digits = decimal_is_IsNumeral (suc m) small in
    let first = first_decimal (suc m) (omega arith) small in
    let other : get_or (decimal (suc m)) 0 0 ≢ 48 = λ is. omega (arith, first, is) in
    plain (decimal (suc m)) digits.0.0 other ∙ rw (all_digits 10 (decimal (suc m)) digits.0.1, digits.1) refl

pub one_text : (text : List ℕ) (n : ℕ) → n < 2 ^ 64 → (plain_number text ≡ Some n) ↔ (text ≡ decimal n)
one_text text n small = (written text n small, λ is. ap plain_number is ∙ read_back n small)
