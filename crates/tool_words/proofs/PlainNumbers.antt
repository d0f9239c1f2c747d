-- Numbers in decimal digits, with no sign and no leading zero.
use Rattle.std.proofs.Common.{ℕ, Bool, true, false, List, [], ◌∷◌, ◌≡◌, ◌≢◌, ◌∙◌, ◌<◌, ◌≤◌, ◌+◌, ◌^◌, ◌&&◌, ◌==◌, length, take, get_or, Some, None, Result, Ok, Err, refl, rules, arith}
use Rattle.std.specs.Prelude.{option_and_then}
use Rattle.std.specs.Char.{digit_value, is_digit}
use Rattle.std.specs.List.{list_all}
use Rattle.std.specs.Result.{result_ok}
use Rattle.std.specs.Str.Parse.{AllDigits, IsNumeral, ParsesUnsigned, digits_value, without_leading_plus}
use Rattle.std.proofs.lemmas.Bool.Decides.{nat_tests}
use Rattle.std.proofs.lemmas.Result.{OkIff-at_ok}
use Rattle.std.proofs.lemmas.Str.{digit_value_digit}
use Rattle.std.proofs.lemmas.Str.Parse.{digit_from_value, digits_value-take-le, without_leading_plus_none}
use Rattle.tool_words.specs.Limits.{number_within, plain_number, within}
use Rattle.tool_words.specs.Region.{digits_number}
use Rattle.tool_words.specs.declared.limit.Limit.{Limit}
use Rattle.tool_words.proofs.Numbers.{all_digits}

pub nothing_said : (limit : Limit) (value : List ℕ) → length value ≡ 0 → number_within limit value ≡ None
unfolding plain_number
nothing_said limit [] none = refl
nothing_said limit (first ∷ rest) none = absurd (omega (arith, none))

-- a plus (43) is no digit
pub plus_first : (limit : Limit) (value : List ℕ) → get_or value 0 0 ≡ 43 → number_within limit value ≡ None
unfolding plain_number digits_number
plus_first limit [] is = refl
plus_first limit (first ∷ []) is = rw is refl
plus_first limit (first ∷ second ∷ rest) is = rw is refl

-- a zero (48) leads, or is the number 0
pub zero_first : (limit : Limit) (value : List ℕ) → get_or value 0 0 ≡ 48 → number_within limit value ≡ None
unfolding plain_number digits_number
zero_first limit [] is = refl
zero_first limit (first ∷ []) is = rw is refl
zero_first limit (first ∷ second ∷ rest) is = rw is refl

-- no zero leads
pub plain : (value : List ℕ) → 0 < length value → get_or value 0 0 ≢ 48 → plain_number value ≡ digits_number 10 value
unfolding plain_number
plain [] some other = absurd (omega (arith, some))
plain (first ∷ []) some other = refl
plain (first ∷ second ∷ rest) some other = go (first == 48) refl
  where
    go : (b : Bool) → (first == 48) ≡ b → plain_number (first ∷ second ∷ rest) ≡ digits_number 10 (first ∷ second ∷ rest)
    go true is = absurd (other (search (rules, is)))
    go false is = rw is refl

pub from_all : (value : List ℕ) → list_all (λ d. is_digit d 10) value ≡ true → AllDigits 10 value
from_all [] is = tt
from_all (d ∷ ds) is = go (is_digit d 10) refl is (from_all ds)
  where
    go : (b : Bool) → is_digit d 10 ≡ b → (b && list_all (λ d. is_digit d 10) ds) ≡ true → (list_all (λ d. is_digit d 10) ds ≡ true → AllDigits 10 ds)
        → (digit_value d < 10) × AllDigits 10 ds
    go true first rest digits = (search (rules, first), digits rest)
    go false first rest digits = cc

-- a number whose first digit isn't 0 is at least 1
positive : (value : List ℕ) → AllDigits 10 value → 0 < length value → get_or value 0 0 ≢ 48 → 1 ≤ digits_value 10 value
positive [] all some other = absurd (omega (arith, some))
positive (d ∷ ds) all some other =
    let first : digits_value 10 (take 1 (d ∷ ds)) ≤ digits_value 10 (d ∷ ds) = digits_value-take-le 10 (d ∷ ds) 1 (omega arith) in
    let alone : digits_value 10 (take 1 (d ∷ ds)) ≡ 0 + digit_value d = refl in
    omega (arith, first, alone, other, digit_from_value d all.0, digit_value_digit d (digit_from_value d all.0))

refutes_number : {E : Type 0} (value : List ℕ) (r : Result ℕ E) → ParsesUnsigned 32 10 value r → result_ok r ≡ None
    → IsNumeral 10 (without_leading_plus value) × (digits_value 10 (without_leading_plus value) < 2 ^ 32) → ⊥
refutes_number value (Ok n) parses none = cc
refutes_number value (Err e) parses none = parses

-- a value that std reads as a number, or does not
module _ {E : Type 0} (value : List ℕ) (r : Result ℕ E) (parses : ParsesUnsigned 32 10 value r) (some : 0 < length value)
    (no_plus : get_or value 0 0 ≢ 43) (no_zero : get_or value 0 0 ≢ 48) where
  bare : without_leading_plus value ≡ value
  bare = without_leading_plus_none value no_plus

  pub parsed : (n : ℕ) → r ≡ Ok n → plain_number value ≡ Some n
  unfolding digits_number
  parsed n is =
      let fact = OkIff-at_ok r _ _ n parses is in
      let all : AllDigits 10 value = rw bare at fact.0.0.1 in
      let number : n ≡ digits_value 10 value = rw bare at fact.1 in
      plain value some no_zero ∙ rw (all_digits 10 value all, number) refl

  pub at_least_one : (n : ℕ) → r ≡ Ok n → 1 ≤ n
  at_least_one n is =
      let fact = OkIff-at_ok r _ _ n parses is in
      let all : AllDigits 10 value = rw bare at fact.0.0.1 in
      let number : n ≡ digits_value 10 value = rw bare at fact.1 in
      omega (arith, number, positive value all some no_zero)

  above : (limit : Limit) (n : ℕ) → limit.most < 2 ^ 32 → (n < 2 ^ 32 → ⊥) → within limit n ≡ None
  above limit n most over = grind (arith, nat_tests, over, most)

  refuted : result_ok r ≡ None → AllDigits 10 value → digits_value 10 value < 2 ^ 32 → ⊥
  refuted none all small =
      let refutes : IsNumeral 10 (without_leading_plus value) × (digits_value 10 (without_leading_plus value) < 2 ^ 32) → ⊥ = refutes_number value r parses none in
      (rw bare at refutes) ((some, all), small)

  pub not_parsed : (limit : Limit) → limit.most < 2 ^ 32 → result_ok r ≡ None → number_within limit value ≡ None
  unfolding digits_number
  not_parsed limit most none = rw (plain value some no_zero) (go (list_all (λ d. is_digit d 10) value) refl (refuted none) (from_all value) (above limit (digits_value 10 value) most))
    where
      go : (b : Bool) → list_all (λ d. is_digit d 10) value ≡ b → (AllDigits 10 value → digits_value 10 value < 2 ^ 32 → ⊥)
          → (list_all (λ d. is_digit d 10) value ≡ true → AllDigits 10 value) → ((digits_value 10 value < 2 ^ 32 → ⊥) → within limit (digits_value 10 value) ≡ None)
          → option_and_then (within limit) (digits_number 10 value) ≡ None
      go false is refuses digits over = rw is refl
      go true is refuses digits over = rw is (over (refuses (digits is)))

-- a number out of the limit
pub out_of_limit : (limit : Limit) (value : List ℕ) (n : ℕ) → plain_number value ≡ Some n → within limit n ≡ None → number_within limit value ≡ None
out_of_limit limit value n is out = rw is out

pub in_limit : (limit : Limit) (value : List ℕ) (n : ℕ) → plain_number value ≡ Some n → within limit n ≡ Some n → number_within limit value ≡ Some n
in_limit limit value n is inside = rw is inside
