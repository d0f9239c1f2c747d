-- Numbers of at most eight digits in a base of at most 16.
use Rattle.std.proofs.Common.{ℕ, List, [], ◌∷◌, ◌≡◌, ◌<◌, ◌≤◌, ◌+◌, ◌-◌, ◌*◌, ◌^◌, true, false, length, length-drop, take, take_all, drop, get_or, Option, Some, None, refl, rules, arith}
use Rattle.std.specs.Char.{digit_value, is_digit}
use Rattle.std.specs.List.{list_all}
use Rattle.std.specs.Str.Parse.{AllDigits, digits_value}
use Rattle.std.proofs.Math.Nat.{pow-le-pow_left, pow-le-pow_right, mul-le-mul_left}
use Rattle.std.proofs.lemmas.Int.Digits.{digits_value-lt}
use Rattle.std.proofs.lemmas.List.Folds.{list_all_at}
use Rattle.elf_load.specs.Regions.{region_with}
use Rattle.tool_words.specs.Region.{has_colon, digits_number, region_said}

-- there is room for one digit more
pub room : (base : ℕ) (digits : List ℕ) (i : ℕ) → base ≤ 16 → AllDigits base (take i digits)
    → i < length digits → length digits ≤ 8 → digits_value base (take i digits) * base + 15 < 2 ^ 32
room base digits i most all lt short =
    let seen : length (take i digits) ≤ 7 = search (rules, arith) in
    let below = digits_value-lt base (take i digits) all in
    let left = pow-le-pow_left most (length (take i digits)) in
    let right : 16 ^ length (take i digits) ≤ 16 ^ 7 = pow-le-pow_right (omega arith) seen in
    let times = mul-le-mul_left (digits_value base (take i digits)) most in
    omega arith

pub all_digits : (base : ℕ) (digits : List ℕ) → AllDigits base digits → list_all (λ d. is_digit d base) digits ≡ true
all_digits base [] all = refl
all_digits base (d ∷ ds) all =
    let first : is_digit d base ≡ true = search (all.0, rules) in
    rw (first, all_digits base ds all.1) refl

pub number_there : (base : ℕ) (digits : List ℕ) (i : ℕ) → length digits ≤ i → AllDigits base (take i digits)
    → digits_number base digits ≡ Some (digits_value base (take i digits))
unfolding digits_number
number_there base digits i whole all =
    let same : take i digits ≡ digits = take_all i digits whole in
    let all2 : AllDigits base digits = rw same at all in
    rw (same, all_digits base digits all2) refl

pub number_absent : (base : ℕ) (digits : List ℕ) (i : ℕ) → i < length digits → base ≤ digit_value (get_or digits i 0)
    → digits_number base digits ≡ None
unfolding digits_number
number_absent base digits i lt above =
    let miss : is_digit (get_or digits i 0) base ≡ false = search (above, rules) in
    rw (list_all_at (λ d. is_digit d base) digits i 0 lt miss) refl

-- a slice to the end
pub to_end : (word : List ℕ) (k : ℕ) → take (length word - k) (drop k word) ≡ drop k word
to_end word k = take_all (length word - k) (drop k word) (omega (arith, length-drop k word))

pub region_there : (word : List ℕ) (start count : Option ℕ) → has_colon word ≡ true → digits_number 16 (take 8 word) ≡ start
    → digits_number 10 (drop 9 word) ≡ count → region_with start count ≡ region_said word
unfolding region_said
region_there word start count colon at_start at_count = rw (colon, at_start, at_count) refl
