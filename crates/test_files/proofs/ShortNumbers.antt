-- Short numbers: one to four decimal digits with no leading zero.
use Rattle.std.proofs.Common.{ℕ, List, [], ◌∷◌, ◌≡◌, ◌<◌, ◌≤◌, ◌+◌, ◌*◌, ◌^◌, true, false, length, nat_le, decimal, take, take_all, get_or, Some, None, refl, rules, arith}
use Rattle.std.specs.Char.{digit_value, is_digit}
use Rattle.std.specs.List.{list_all}
use Rattle.std.specs.Str.Parse.{AllDigits, digits_value}
use Rattle.std.proofs.Math.Nat.{pow-le-pow_right}
use Rattle.std.proofs.lemmas.Bool.Decides.{nat_tests}
use Rattle.std.proofs.lemmas.Fmt.{decimal_is_IsNumeral, length-decimal-le}
use Rattle.std.proofs.lemmas.Int.Digits.{digits_value-lt}
use Rattle.std.proofs.lemmas.List.Folds.{list_all_at}
use Rattle.text_parts.specs.Digits.{has_leading_zero}
use Rattle.text_parts.proofs.DigitsBack.{no_leading_zero}
use Rattle.test_files.specs.Forms.{short_number}

-- there is room for one digit more
pub room : (digits : List ℕ) (i : ℕ) → AllDigits 10 (take i digits) → i < length digits → length digits ≤ 4 → digits_value 10 (take i digits) * 10 + 15 < 2 ^ 32
room digits i all lt short =
    let seen : length (take i digits) ≤ 3 = search (rules, arith) in
    let below = digits_value-lt 10 (take i digits) all in
    let most : 10 ^ length (take i digits) ≤ 10 ^ 3 = pow-le-pow_right (omega arith) seen in
    omega arith

all_digits : (digits : List ℕ) → AllDigits 10 digits → list_all (λ d. is_digit d 10) digits ≡ true
all_digits [] all = refl
all_digits (d ∷ ds) all =
    let first : is_digit d 10 ≡ true = search (all.0, rules) in
    rw (first, all_digits ds all.1) refl

at_least : (digits : List ℕ) → 1 ≤ length digits → nat_le 1 (length digits) ≡ true
at_least digits some = grind (arith, nat_tests)

at_most : (digits : List ℕ) → length digits ≤ 4 → nat_le (length digits) 4 ≡ true
at_most digits short = grind (arith, nat_tests)

pub short_there : (digits : List ℕ) (i : ℕ) → 1 ≤ length digits → length digits ≤ 4 → has_leading_zero digits ≡ false → length digits ≤ i → AllDigits 10 (take i digits)
    → short_number digits ≡ Some (digits_value 10 (take i digits))
unfolding short_number
short_there digits i some short plain whole all =
    let same : take i digits ≡ digits = take_all i digits whole in
    let every : AllDigits 10 digits = rw same at all in
    rw (same, at_least digits some, at_most digits short, plain, all_digits digits every) refl

pub short_absent : (digits : List ℕ) (i : ℕ) → i < length digits → 10 ≤ digit_value (get_or digits i 0) → 1 ≤ length digits → length digits ≤ 4 → has_leading_zero digits ≡ false → short_number digits ≡ None
unfolding short_number
short_absent digits i lt above some short plain =
    let miss : is_digit (get_or digits i 0) 10 ≡ false = search (above, rules) in
    rw (at_least digits some, at_most digits short, plain, list_all_at (λ d. is_digit d 10) digits i 0 lt miss) refl

pub nothing : (digits : List ℕ) → length digits ≡ 0 → short_number digits ≡ None
unfolding short_number
nothing [] none = refl
nothing (d ∷ ds) none = absurd (omega (arith, none))

pub too_long : (digits : List ℕ) → 4 < length digits → short_number digits ≡ None
unfolding short_number
too_long digits long =
    let over : nat_le (length digits) 4 ≡ false = grind (arith, nat_tests) in
    rw (at_least digits (omega arith), over) refl

pub zero_first : (digits : List ℕ) → 1 ≤ length digits → length digits ≤ 4 → has_leading_zero digits ≡ true → short_number digits ≡ None
unfolding short_number
zero_first digits some short zero = rw (at_least digits some, at_most digits short, zero) refl

-- one that was written is read back
pub short_back : (n : ℕ) → n ≤ 9999 → short_number (decimal n) ≡ Some n
unfolding short_number
short_back n most =
    let small : n < 2 ^ 64 = omega arith in
    let digits = decimal_is_IsNumeral n small in
    let short : length (decimal n) ≤ 4 = length-decimal-le 4 n (omega arith) (omega arith) small in
    rw (at_least (decimal n) digits.0.0, at_most (decimal n) short, no_leading_zero n small, all_digits (decimal n) digits.0.1, digits.1) refl
