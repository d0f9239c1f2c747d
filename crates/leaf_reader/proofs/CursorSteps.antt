-- What the readers of words and numbers give, from what std says of slices.
use Rattle.std.proofs.Common.{◌≡◌, ◌∙◌, ℕ, ◌+◌, ◌*◌, ◌<◌, ◌≤◌, ◌^◌, Bool, true, false, not, ◌&&◌, ◌==◌, nat_lt, List, [], ◌∷◌, map, length, take, drop, get_or, Option, None, Some, Result, Ok, Err, option_map, refl, sym, ap, arith, Bor}
use Rattle.std.specs.Prelude.{MatchOption, if◌then◌else◌}
use Rattle.std.specs.Char.{digit_value}
use Rattle.std.specs.Str.{bytes_eq}
use Rattle.std.specs.Str.Parse.{digits_value}
use Rattle.std.proofs.lemmas.Bool.{eq-eqb, eqb-true}
use Rattle.std.proofs.lemmas.Bool.Decides.{nat_tests}
use Rattle.std.proofs.lemmas.Int.Digits.{digits_value_more}
use Rattle.std.proofs.lemmas.List.{drop_all, drop_more, length-take, take_all}
use Rattle.std.proofs.lemmas.Str.Parse.{digits_value-take-le}
use Rattle.hex.specs.Hex.{decode_sized}
use Rattle.hex.specs.declared.error.FromHexError.{FromHexError}
use Rattle.hex.proofs.HexLemmas.{decode_sized-ok}
use Rattle.text_parts.specs.Digits.{has_leading_zero, has_upper_case, hex_number, number_of_bytes}
use Rattle.text_parts.specs.Pieces.{behind, eight, is_plain, named, plain_number}

-- ---- words

not_behind : (word text : List ℕ) → bytes_eq (take (length word) text) word ≡ false → behind word text ≡ None
unfolding behind
not_behind [] text h = cc
not_behind (c ∷ word) [] h = refl
not_behind (c ∷ word) (d ∷ text) h = go (c == d) refl (not_behind word text)
  where
    go : (b : Bool) → (c == d) ≡ b → (bytes_eq (take (length word) text) word ≡ false → behind word text ≡ None) →
        (if b then behind word text else None) ≡ None
    go false is later = refl
    go true is later =
        let same : (d == c) ≡ true = eq-eqb d c (sym (eqb-true c d is)) in
        later (rw same at h)

is_behind : (word text : List ℕ) → bytes_eq (take (length word) text) word ≡ true →
    behind word text ≡ Some (drop (length word) text)
unfolding behind
is_behind [] text h = refl
is_behind (c ∷ word) [] h = cc
is_behind (c ∷ word) (d ∷ text) h = go (d == c) refl (is_behind word text) h
  where
    go : (b : Bool) → (d == c) ≡ b → (bytes_eq (take (length word) text) word ≡ true → behind word text ≡ Some (drop (length word) text)) →
        (b && bytes_eq (take (length word) text) word) ≡ true →
        (if c == d then behind word text else None) ≡ Some (drop (length word) text)
    go false is later h = cc
    go true is later h = rw (eq-eqb c d (sym (eqb-true d c is))) (later h)

pub stripped : (word text front : List ℕ) (r : Option (Bor (List ℕ))) → front ≡ word →
    MatchOption r (bytes_eq (take (length front) text) front ≡ false)
    (λ x. (bytes_eq (take (length front) text) front ≡ true) × (x.now ≡ drop (length front) text) × (length x.now + length front ≡ length text)) →
    option_map (λ rest. rest.now) r ≡ behind word text
stripped word text front None e h = sym (ap (λ w. behind w text) (sym e) ∙ not_behind front text h)
stripped word text front (Some x) e h =
    ap Some h.1 ∙ sym (is_behind front text h.0) ∙ ap (λ w. behind w text) e

-- ---- a table of words

module _ {X Y : Type 0} (entry : Y → List ℕ × X) (table : List Y) (i : ℕ) (text : List ℕ) where
  pub named_here : (y : Y) (rest : List ℕ) → i < length table → y ≡ get_or table i y →
      behind (entry y).0 text ≡ Some rest → named (map entry (drop i table)) text ≡ Some ((entry y).1, rest)
  unfolding named
  named_here y rest lt item is =
      ap (λ es. named (map entry es) text) (drop_more table i y lt)
      ∙ ap (λ z. named (map entry (z ∷ drop (i + 1) table)) text) (sym item) ∙ rw is refl

  pub named_on : (y : Y) → i < length table → y ≡ get_or table i y → behind (entry y).0 text ≡ None →
      named (map entry (drop i table)) text ≡ named (map entry (drop (i + 1) table)) text
  unfolding named
  named_on y lt item is =
      ap (λ es. named (map entry es) text) (drop_more table i y lt)
      ∙ ap (λ z. named (map entry (z ∷ drop (i + 1) table)) text) (sym item) ∙ rw is refl

  pub named_past : length table ≤ i → named (map entry (drop i table)) text ≡ None
  unfolding named
  named_past past = ap (λ es. named (map entry es) text) (drop_all i table past)

-- ---- numbers

pub no_digits : (digits : List ℕ) → length digits ≡ 0 → plain_number digits ≡ None
unfolding plain_number
no_digits [] none = refl
no_digits (d ∷ digits) none = absurd (omega (arith, none))

pub zero_leads : (digits : List ℕ) → has_leading_zero digits ≡ true → plain_number digits ≡ None
unfolding plain_number
zero_leads [] leads = refl
zero_leads (d ∷ digits) leads = rw leads refl

lt_false : (a b : ℕ) → b ≤ a → nat_lt a b ≡ false
lt_false a b h = grind (arith, nat_tests)

lt_true : (a b : ℕ) → a < b → nat_lt a b ≡ true
lt_true a b h = grind (arith, nat_tests)

too_big : (digits : List ℕ) → 2 ^ 64 ≤ digits_value 10 digits → is_plain digits ≡ false
too_big [] big = refl
too_big (d ∷ digits) big = go (not (has_leading_zero (d ∷ digits)))
  where
    go : (b : Bool) → (b && nat_lt (digits_value 10 (d ∷ digits)) (2 ^ 64)) ≡ false
    go false = refl
    go true = lt_false _ _ big

-- the digits up to one are too much already
pub overflows : (digits : List ℕ) (i : ℕ) → i < length digits →
    2 ^ 64 ≤ digits_value 10 (take i digits) * 10 + digit_value (get_or digits i 0) → plain_number digits ≡ None
unfolding plain_number
overflows digits i lt big =
    let more = digits_value_more 10 digits i lt in
    let less = digits_value-take-le 10 digits (i + 1) (omega arith) in
    rw (too_big digits (omega (arith, more, less, big))) refl

pub whole_number : (digits : List ℕ) (i : ℕ) → 0 < length digits → has_leading_zero digits ≡ false → length digits ≤ i →
    digits_value 10 (take i digits) < 2 ^ 64 → plain_number digits ≡ Some (digits_value 10 (take i digits))
unfolding plain_number
whole_number [] i some leads past small = absurd (omega (arith, some))
whole_number (d ∷ digits) i some leads past small =
    let whole : take i (d ∷ digits) ≡ d ∷ digits = take_all i (d ∷ digits) past in
    let below : digits_value 10 (d ∷ digits) < 2 ^ 64 = rw whole at small in
    rw (whole, leads, lt_true _ _ below) refl

-- ---- eight digits

pub short_eight : (text : List ℕ) → length text < 8 → eight text ≡ None
unfolding eight hex_number
short_eight text short = go (has_upper_case (take 8 text)) (decode_sized (take 8 text) 4) refl
  where
    go : (b : Bool) (r : Result (List ℕ) FromHexError) → decode_sized (take 8 text) 4 ≡ r →
        option_map {T = ℕ} {U = ℕ × List ℕ} (λ n. (n, drop 8 text)) (if b then None else number_of_bytes r) ≡ None
    go true r is = refl
    go false (Err why) is = refl
    go false (Ok bytes) is =
        absurd (omega (arith, decode_sized-ok (take 8 text) 4 bytes is, length-take 8 text, short))
