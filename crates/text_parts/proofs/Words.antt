-- Words and numbers: what was written is read back, and what was read was written so.
use Rattle.std.proofs.Common.{◌≡◌, ◌∙◌, inl, inr, ℕ, ◌+◌, ◌<◌, ◌^◌, Bool, true, false, not, ◌==◌, cond, nat_lt, List, [], ◌∷◌, ◌++◌, length, take, drop, get_or, None, Some, option_map, refl, sym, ap, arith, decimal}
use Rattle.std.specs.Prelude.{if◌then◌else◌}
use Rattle.std.specs.Char.{digit_value, is_ascii_digit}
use Rattle.std.specs.Int.{IsInRange}
use Rattle.std.specs.Str.Parse.{AllDigits, digits_value}
use Rattle.std.proofs.Math.Numerals.{one-add}
use Rattle.std.proofs.lemmas.Bool.{and_parts, eq-eqb, eqb-true}
use Rattle.std.proofs.lemmas.Bool.Decides.{nat_tests}
use Rattle.std.proofs.lemmas.Fmt.{decimal-digits_value, decimal_is_IsNumeral}
use Rattle.std.proofs.lemmas.List.{drop_at, take-append-drop, take_at}
use Rattle.std.proofs.lemmas.Option.{same_Some}
use Rattle.std.proofs.lemmas.Str.{digit_value_digit}
use Rattle.std.proofs.lemmas.Str.Parse.{digit_from_value, numerals_by_value, tells_digits}
use Rattle.text_parts.specs.Digits.{has_leading_zero}
use Rattle.text_parts.specs.Pieces.{Reader, before, behind, digit_count, is_plain, made, named, number, one, plain_number, three, two}
use Rattle.text_parts.proofs.DigitsBack.{no_leading_zero}
use Rattle.text_parts.proofs.Options.{map_from, or_from, then_from}

-- ---- words

pub behind_word : (word rest : List ℕ) → behind word (word ++ rest) ≡ Some rest
unfolding behind
behind_word [] rest = refl
behind_word (c ∷ word) rest = rw (eq-eqb c c refl) (behind_word word rest)

pub from_behind : (word text rest : List ℕ) → behind word text ≡ Some rest → text ≡ word ++ rest
unfolding behind
from_behind [] text rest h = same_Some text rest h
from_behind (c ∷ word) [] rest h = cc
from_behind (c ∷ word) (d ∷ text) rest h = go (c == d) refl (from_behind word text rest) h
  where
    go : (b : Bool) → (c == d) ≡ b → (behind word text ≡ Some rest → text ≡ word ++ rest) →
        (if b then behind word text else None) ≡ Some rest → (d ∷ text) ≡ (c ∷ (word ++ rest))
    go true is later h = let same : c ≡ d = eqb-true c d is in let tail = later h in cc
    go false is later h = cc

-- a table has the words that its items are written as
abbrev pub Says : {X : Type 0} → (X → List ℕ) → List (List ℕ × X) → Type 0
Says print [] = Unit {0}
Says print ((word, x) ∷ others) = (word ≡ print x) × Says print others

pub from_named : {X : Type 0} (print : X → List ℕ) (table : List (List ℕ × X)) → Says print table →
    (text : List ℕ) (x : X) (rest : List ℕ) → named table text ≡ Some (x, rest) → text ≡ print x ++ rest
unfolding named
from_named print [] says text x rest h = cc
from_named {X} print ((word, y) ∷ others) says text x rest h =
    elim (or_from (option_map (λ r. (y, r)) (behind word text)) (named others text) (x, rest) h) [
      | inl here ↦
          let b = map_from (λ (r : List ℕ). (y, r)) (behind word text) (x, rest) here in
          from_behind word text b.0 b.1 ∙ ap (λ w. w ++ b.0) says.0
          ∙ ap (λ (p : X × List ℕ). print p.0 ++ p.1) b.2
      | inr later ↦ from_named print others says.1 text x rest later
    ]

pub from_before : {X : Type 0} (read : Reader X) (word text : List ℕ) (x : X) (rest : List ℕ) →
    before read word text ≡ Some (x, rest) →
    (mid : List ℕ) × (read text ≡ Some (x, mid)) × (mid ≡ word ++ rest)
from_before {X} read word text x rest h =
    let a = then_from (λ ((y, mid) : X × List ℕ). option_map (λ more. (y, more)) (behind word mid)) (read text) (x, rest) h in
    let b = map_from (λ (more : List ℕ). (a.0.0, more)) (behind word a.0.1) (x, rest) a.2 in (
      a.0.1,
      a.1 ∙ ap (λ (z : X). Some (z, a.0.1)) (ap (λ (p : X × List ℕ). p.0) b.2),
      from_behind word a.0.1 b.0 b.1 ∙ ap (λ (p : X × List ℕ). word ++ p.1) b.2,
    )

-- ---- numbers

lt_true : (a b : ℕ) → a < b → nat_lt a b ≡ true
lt_true a b h = grind (arith, nat_tests)

lt_from : (a b : ℕ) → nat_lt a b ≡ true → a < b
lt_from a b h = grind (arith, nat_tests)

digit_in_range : (c : ℕ) → is_ascii_digit c ≡ true → IsInRange 48 57 c
digit_in_range c h = (grind (arith, nat_tests), grind (arith, nat_tests))

range_digit : (c : ℕ) → IsInRange 48 57 c → is_ascii_digit c ≡ true
range_digit c h = grind (arith, nat_tests, h.0, h.1)

not_true : (b : Bool) → not b ≡ true → b ≡ false
not_true true h = cc
not_true false h = refl

-- the text doesn't begin with a digit
abbrev pub starts_plain : List ℕ → Bool
starts_plain [] = true
starts_plain (c ∷ rest) = not (is_ascii_digit c)

count_digits : (digits rest : List ℕ) → AllDigits 10 digits → starts_plain rest ≡ true →
    digit_count (digits ++ rest) ≡ length digits
count_digits [] [] all plain = refl
count_digits [] (c ∷ rest) all plain = rw (not_true (is_ascii_digit c) plain) refl
count_digits (d ∷ digits) rest all plain =
    let first : is_ascii_digit d ≡ true = range_digit d (digit_from_value d all.0) in
    let later : digit_count (digits ++ rest) ≡ length digits = count_digits digits rest all.1 plain in
    rw first (omega (arith, later))

pub all_counted : (text : List ℕ) → AllDigits 10 (take (digit_count text) text)
all_counted [] = tt
all_counted (c ∷ text) = go (is_ascii_digit c) refl (all_counted text)
  where
    go : (b : Bool) → is_ascii_digit c ≡ b → AllDigits 10 (take (digit_count text) text) →
        AllDigits 10 (take (cond b (1 + digit_count text) 0) (c ∷ text))
    go false is later = tt
    go true is later =
        let value : digit_value c < 10 = omega (arith, digit_value_digit c (digit_in_range c is), (digit_in_range c is).1) in
        rw one-add (value, later)

is_plain_number : (digits : List ℕ) → 0 < length digits → has_leading_zero digits ≡ false →
    digits_value 10 digits < 2 ^ 64 → is_plain digits ≡ true
is_plain_number [] some lead small = absurd (omega (arith, some))
is_plain_number (d ∷ digits) some lead small = rw lead (lt_true _ _ small)

pub plain_decimal : (n : ℕ) → n < 2 ^ 64 → plain_number (decimal n) ≡ Some n
unfolding plain_number
plain_decimal n small =
    let digits = decimal_is_IsNumeral n small in
    let below : digits_value 10 (decimal n) < 2 ^ 64 = rw digits.1 small in
    rw (is_plain_number (decimal n) digits.0.0 (no_leading_zero n small) below) (ap Some digits.1)

pub number_back : (n : ℕ) (rest : List ℕ) → n < 2 ^ 64 → starts_plain rest ≡ true →
    number (decimal n ++ rest) ≡ Some (n, rest)
unfolding number
number_back n rest small plain =
    let digits = decimal_is_IsNumeral n small in
    let count : digit_count (decimal n ++ rest) ≡ length (decimal n) =
    count_digits (decimal n) rest digits.0.1 plain in
    rw (count, take_at (decimal n) rest (length (decimal n)) refl, drop_at (decimal n) rest (length (decimal n)) refl, plain_decimal n small) refl

plain_parts : (digits : List ℕ) → is_plain digits ≡ true →
    (0 < length digits) × (get_or digits 0 0 ≡ 48 → length digits ≡ 1) × (digits_value 10 digits < 2 ^ 64)
plain_parts [] h = cc
plain_parts (d ∷ []) h = (omega arith, λ is. refl, lt_from _ _ h)
plain_parts (d ∷ e ∷ digits) h =
    let parts = and_parts (not (d == 48)) (nat_lt (digits_value 10 (d ∷ e ∷ digits)) (2 ^ 64)) h in
    (omega arith, λ is. leads d parts.0 is, lt_from _ _ parts.1)
  where
    leads : (c : ℕ) {X : Type 0} → not (c == 48) ≡ true → c ≡ 48 → X
    leads c other is = let eq : false ≡ true = rw (eq-eqb c 48 is) at other in cc

-- what a plain number is the text of
pub from_plain : (digits : List ℕ) (n : ℕ) → AllDigits 10 digits → plain_number digits ≡ Some n →
    (digits ≡ decimal n) × (n < 2 ^ 64)
unfolding plain_number
from_plain digits n all h = go (is_plain digits) refl h
  where
    go : (b : Bool) → is_plain digits ≡ b → (if b then Some (digits_value 10 digits) else None) ≡ Some n →
        (digits ≡ decimal n) × (n < 2 ^ 64)
    go false is h = cc
    go true is h =
        let parts = plain_parts digits is in
        let same : digits_value 10 digits ≡ n = same_Some _ _ h in
        (sym (decimal-digits_value (numerals_by_value _ tells_digits) digits all parts.0 parts.1 parts.2) ∙ ap decimal same, rw same at parts.2)

pub from_number : (text : List ℕ) (n : ℕ) (rest : List ℕ) → number text ≡ Some (n, rest) →
    (text ≡ decimal n ++ rest) × (n < 2 ^ 64)
unfolding number
from_number text n rest h =
    let a = map_from (λ (m : ℕ). (m, drop (digit_count text) text)) (plain_number (take (digit_count text) text)) (n, rest) h in
    let digits = from_plain (take (digit_count text) text) a.0 (all_counted text) a.1 in
    let same : a.0 ≡ n = ap (λ (p : ℕ × List ℕ). p.0) a.2 in (
      sym (take-append-drop (digit_count text) text) ∙ ap (λ t. t ++ drop (digit_count text) text) digits.0
          ∙ ap (λ (p : ℕ × List ℕ). decimal p.0 ++ p.1) a.2,
      rw same at digits.1,
    )

-- ---- numbers before words

pub one_back : (word : List ℕ) (n : ℕ) (rest : List ℕ) → n < 2 ^ 64 → starts_plain (word ++ rest) ≡ true →
    one word (decimal n ++ (word ++ rest)) ≡ Some (n, rest)
unfolding one
one_back word n rest small plain = rw (number_back n (word ++ rest) small plain, behind_word word rest) refl

pub from_one : (word text : List ℕ) (n : ℕ) (rest : List ℕ) → one word text ≡ Some (n, rest) →
    (text ≡ decimal n ++ (word ++ rest)) × (n < 2 ^ 64)
unfolding one
from_one word text n rest h =
    let a = from_before number word text n rest h in
    let b = from_number text n a.0 a.1 in
    (b.0 ∙ ap (λ t. decimal n ++ t) a.2, b.1)

pub two_back : (word other : List ℕ) (a b : ℕ) (rest : List ℕ) → a < 2 ^ 64 → b < 2 ^ 64 →
    starts_plain (word ++ (decimal b ++ (other ++ rest))) ≡ true → starts_plain (other ++ rest) ≡ true →
    two word other (decimal a ++ (word ++ (decimal b ++ (other ++ rest)))) ≡ Some ((a, b), rest)
unfolding two
two_back word other a b rest small_a small_b plain_a plain_b =
    rw (one_back word a (decimal b ++ (other ++ rest)) small_a plain_a, one_back other b rest small_b plain_b) refl

pub from_two : (word other text : List ℕ) (p : ℕ × ℕ) (rest : List ℕ) → two word other text ≡ Some (p, rest) →
    (text ≡ decimal p.0 ++ (word ++ (decimal p.1 ++ (other ++ rest)))) × (p.0 < 2 ^ 64) × (p.1 < 2 ^ 64)
unfolding two
from_two word other text p rest h =
    let a = then_from (λ ((n, more) : ℕ × List ℕ). made (λ (b : ℕ). (n, b)) (one other more)) (one word text) (p, rest) h in
    let b = map_from (λ ((n, more) : ℕ × List ℕ). ((a.0.0, n), more)) (one other a.0.1) (p, rest) a.2 in
    let first = from_one word text a.0.0 a.0.1 a.1 in
    let second = from_one other a.0.1 b.0.0 b.0.1 b.1 in (
      first.0 ∙ ap (λ t. decimal a.0.0 ++ (word ++ t)) second.0
          ∙ ap (λ (q : (ℕ × ℕ) × List ℕ). decimal q.0.0 ++ (word ++ (decimal q.0.1 ++ (other ++ q.1)))) b.2,
      rw (ap (λ (q : (ℕ × ℕ) × List ℕ). q.0.0) b.2) at first.1,
      rw (ap (λ (q : (ℕ × ℕ) × List ℕ). q.0.1) b.2) at second.1,
    )

-- another word stands behind the first number
pub not_two : (word other : List ℕ) (n : ℕ) (rest : List ℕ) → n < 2 ^ 64 → starts_plain rest ≡ true →
    behind word rest ≡ None → two word other (decimal n ++ rest) ≡ None
unfolding two one
not_two word other n rest small plain none = rw (number_back n rest small plain, none) refl

pub three_back : (word other third : List ℕ) (a b c : ℕ) (rest : List ℕ) → a < 2 ^ 64 → b < 2 ^ 64 → c < 2 ^ 64 →
    starts_plain (word ++ (decimal b ++ (other ++ (decimal c ++ (third ++ rest))))) ≡ true →
    starts_plain (other ++ (decimal c ++ (third ++ rest))) ≡ true → starts_plain (third ++ rest) ≡ true →
    three word other third (decimal a ++ (word ++ (decimal b ++ (other ++ (decimal c ++ (third ++ rest)))))) ≡ Some ((a, b, c), rest)
unfolding three
three_back word other third a b c rest small_a small_b small_c plain_a plain_b plain_c =
    rw (
      one_back word a (decimal b ++ (other ++ (decimal c ++ (third ++ rest)))) small_a plain_a,
      two_back other third b c rest small_b small_c plain_b plain_c,
    ) refl

pub from_three : (word other third text : List ℕ) (p : ℕ × ℕ × ℕ) (rest : List ℕ) →
    three word other third text ≡ Some (p, rest) →
    (text ≡ decimal p.0 ++ (word ++ (decimal p.1 ++ (other ++ (decimal p.2 ++ (third ++ rest))))))
    × (p.0 < 2 ^ 64) × (p.1 < 2 ^ 64) × (p.2 < 2 ^ 64)
unfolding three
from_three word other third text p rest h =
    let a = then_from (λ ((n, more) : ℕ × List ℕ). made (λ ((b, c) : ℕ × ℕ). (n, b, c)) (two other third more)) (one word text) (p, rest) h in
    let b = map_from (λ ((n, more) : (ℕ × ℕ) × List ℕ). ((a.0.0, n.0, n.1), more)) (two other third a.0.1) (p, rest) a.2 in
    let first = from_one word text a.0.0 a.0.1 a.1 in
    let second = from_two other third a.0.1 b.0.0 b.0.1 b.1 in (
      first.0 ∙ ap (λ t. decimal a.0.0 ++ (word ++ t)) second.0
          ∙ ap (λ (q : (ℕ × ℕ × ℕ) × List ℕ). decimal q.0.0 ++ (word ++ (decimal q.0.1 ++ (other ++ (decimal q.0.2 ++ (third ++ q.1)))))) b.2,
      rw (ap (λ (q : (ℕ × ℕ × ℕ) × List ℕ). q.0.0) b.2) at first.1,
      rw (ap (λ (q : (ℕ × ℕ × ℕ) × List ℕ). q.0.1) b.2) at second.1,
      rw (ap (λ (q : (ℕ × ℕ × ℕ) × List ℕ). q.0.2) b.2) at second.2,
    )
