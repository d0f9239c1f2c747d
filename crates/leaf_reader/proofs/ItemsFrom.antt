-- Lists of choices and paths, and the numbers of eight digits in them: what was read was written so.
use Rattle.std.proofs.Common.{◌≡◌, ◌∙◌, inl, inr, ℕ, zero, suc, ◌+◌, ◌-◌, ◌*◌, ◌<◌, ◌≤◌, ◌/◌, ◌%◌, ◌^◌, Bool, true, false, ◌&&◌, ◌||◌, nat_le, List, [], ◌∷◌, ◌++◌, take, drop, slice_index, Option, None, Some, Result, Ok, Err, option_map, refl, sym, ap, subst, arith, codes, append_assoc}
use Rattle.std.specs.Prelude.{All, if◌then◌else◌, option_and_then}
use Rattle.std.specs.Char.{is_ascii_uppercase}
use Rattle.std.specs.Int.{from_be_bytes, w32}
use Rattle.std.specs.List.{flat_map, list_any}
use Rattle.std.proofs.lemmas.Bool.Decides.{nat_tests}
use Rattle.std.proofs.lemmas.List.{take-append-drop}
use Rattle.std.proofs.lemmas.List.Elements.{All-cons, All-nil}
use Rattle.std.proofs.lemmas.Nat.{be_bytes_4}
use Rattle.std.proofs.lemmas.Option.{same_Some}
use Rattle.hex.specs.Hex.{IsBytes, decode_of, decode_pairs, decode_sized, digit_or_error, encode_lower, encode_with, hex_digit_value, lower_digits, ◌>>=◌}
use Rattle.hex.specs.declared.error.FromHexError.{FromHexError}
use Rattle.hex.proofs.HexLemmas.{decode_of-even, decode_of-ok, decode_sized-ok, decode_sized-twice}
use Rattle.rv_decode.specs.declared.ends.PathStep.{PathStep}
use Rattle.rv_decode.specs.declared.ends.PathStep.TheVariants.{Target}
use Rattle.tree_core.specs.declared.choice.Choice.{Choice}
use Rattle.tree_core.specs.declared.choice.Choice.TheVariants.{Value}
use Rattle.fork_spec.specs.Leaves.{IsSmallStep}
use Rattle.tree_core.specs.Choices.{IsSmallChoice}
use Rattle.text_parts.specs.Items.{branches, choice, plain_choices, step}
use Rattle.text_parts.specs.Names.{choice_text, eight_digits, step_text}
use Rattle.text_parts.specs.Digits.{has_upper_case, hex_number, number_of_bytes}
use Rattle.text_parts.specs.Pieces.{Reader, behind, eight, items, list_end, made, named}
use Rattle.text_parts.proofs.Options.{map_from, or_from, then_from}
use Rattle.text_parts.proofs.Words.{from_behind, from_named}

-- ---- eight digits

pub letter : (k : ℕ) → k < 6 → slice_index lower_digits (10 + k) ≡ 97 + k
letter zero h = refl
letter (suc zero) h = refl
letter (suc (suc zero)) h = refl
letter (suc (suc (suc zero))) h = refl
letter (suc (suc (suc (suc zero)))) h = refl
letter (suc (suc (suc (suc (suc zero))))) h = refl
letter (suc (suc (suc (suc (suc (suc k)))))) h = absurd (omega (arith, h))

pub figure : (k : ℕ) → k < 10 → slice_index lower_digits k ≡ 48 + k
figure zero h = refl
figure (suc zero) h = refl
figure (suc (suc zero)) h = refl
figure (suc (suc (suc zero))) h = refl
figure (suc (suc (suc (suc zero)))) h = refl
figure (suc (suc (suc (suc (suc zero))))) h = refl
figure (suc (suc (suc (suc (suc (suc zero)))))) h = refl
figure (suc (suc (suc (suc (suc (suc (suc zero))))))) h = refl
figure (suc (suc (suc (suc (suc (suc (suc (suc zero)))))))) h = refl
figure (suc (suc (suc (suc (suc (suc (suc (suc (suc zero))))))))) h = refl
figure (suc (suc (suc (suc (suc (suc (suc (suc (suc (suc k)))))))))) h = absurd (omega (arith, h))

is_upper : (c : ℕ) {X : Type 0} → is_ascii_uppercase c ≡ false → (nat_le 65 c && nat_le c 70) ≡ true → X
is_upper c plain is = absurd (both c plain is)
  where
    both : (c : ℕ) → is_ascii_uppercase c ≡ false → (nat_le 65 c && nat_le c 70) ≡ true → ⊥
    both c plain is = grind (arith, nat_tests)

pub between : (low high c : ℕ) → (nat_le low c && nat_le c high) ≡ true → (low ≤ c) × (c ≤ high)
between low high c is = (grind (arith, nat_tests), grind (arith, nat_tests))

-- a digit is the one of its value
lower_value : (c v : ℕ) → is_ascii_uppercase c ≡ false → hex_digit_value c ≡ Some v →
    (v < 16) × (slice_index lower_digits v ≡ c)
lower_value c v plain h = go (nat_le 65 c && nat_le c 70) (nat_le 97 c && nat_le c 102) (nat_le 48 c && nat_le c 57) refl refl refl h
  where
    go : (a b d : Bool) → (nat_le 65 c && nat_le c 70) ≡ a → (nat_le 97 c && nat_le c 102) ≡ b → (nat_le 48 c && nat_le c 57) ≡ d →
        (if a then Some (c - 55) else (if b then Some (c - 87) else (if d then Some (c - 48) else None))) ≡ Some v →
        (v < 16) × (slice_index lower_digits v ≡ c)
    go true b d upper is_b is_d is = is_upper c plain upper
    go false true d upper is_b is_d is =
        let range = between 97 102 c is_b in
        let same : c - 87 ≡ v = same_Some (c - 87) v is in
        let value : v ≡ 10 + (c - 97) = omega (arith, same, range.0) in
        let back : 97 + (c - 97) ≡ c = omega (arith, range.0) in
        (omega (arith, same, range.1), ap (slice_index lower_digits) value ∙ letter (c - 97) (omega (arith, range.0, range.1)) ∙ back)
    go false false true upper is_b is_d is =
        let range = between 48 57 c is_d in
        let same : c - 48 ≡ v = same_Some (c - 48) v is in
        let back : 48 + (c - 48) ≡ c = omega (arith, range.0) in
        (omega (arith, same, range.1), ap (slice_index lower_digits) (sym same) ∙ figure (c - 48) (omega (arith, range.0, range.1)) ∙ back)
    go false false false upper is_b is_d is = cc

first_plain : (a b : Bool) → (a || b) ≡ false → (a ≡ false) × (b ≡ false)
first_plain false b is = (refl, is)
first_plain true b is = cc

pairs_lower : (i : ℕ) (digits bytes : List ℕ) → has_upper_case digits ≡ false → decode_pairs i digits ≡ Ok bytes →
    digits ≡ encode_lower bytes
unfolding decode_pairs encode_with
pairs_lower i [] bytes plain h = ap encode_lower (ok_same [] bytes h)
  where
    ok_same : (a b : List ℕ) → ◌≡◌ {A = Result (List ℕ) FromHexError} (Ok a) (Ok b) → a ≡ b
    ok_same a b h = cc
pairs_lower i (a ∷ []) bytes plain h = cc
pairs_lower i (a ∷ b ∷ digits) bytes plain h =
    let one = first_plain (is_ascii_uppercase a) (list_any is_ascii_uppercase (b ∷ digits)) plain in
    let two = first_plain (is_ascii_uppercase b) (list_any is_ascii_uppercase digits) one.1 in
    go (hex_digit_value a) (hex_digit_value b) (decode_pairs (i + 2) digits) refl refl
    (λ bs is. pairs_lower (i + 2) digits bs two.1 is) (lower_value a) (lower_value b) one.0 two.0 h
  where
    written : (a b high low : ℕ) (rest bs : List ℕ) → (high < 16) × (slice_index lower_digits high ≡ a) →
        (low < 16) × (slice_index lower_digits low ≡ b) → rest ≡ encode_lower bs →
        a ∷ b ∷ rest ≡ encode_lower ((high * 16 + low) ∷ bs)
    written a b high low rest bs at_a at_b tail =
        let top : (high * 16 + low) / 16 ≡ high = omega (arith, at_b.0) in
        let bottom : (high * 16 + low) % 16 ≡ low = omega (arith, at_b.0) in
        rw (top, bottom, at_a.1, at_b.1) (ap (λ t. a ∷ b ∷ t) tail)

    ok_same : (a b : List ℕ) → ◌≡◌ {A = Result (List ℕ) FromHexError} (Ok a) (Ok b) → a ≡ b
    ok_same a b h = cc

    go : (x y : Option ℕ) (t : Result (List ℕ) FromHexError) → hex_digit_value a ≡ x → hex_digit_value b ≡ y →
        ((bs : List ℕ) → t ≡ Ok bs → digits ≡ encode_lower bs) →
        ((v : ℕ) → is_ascii_uppercase a ≡ false → hex_digit_value a ≡ Some v → (v < 16) × (slice_index lower_digits v ≡ a)) →
        ((v : ℕ) → is_ascii_uppercase b ≡ false → hex_digit_value b ≡ Some v → (v < 16) × (slice_index lower_digits v ≡ b)) →
        is_ascii_uppercase a ≡ false → is_ascii_uppercase b ≡ false →
        ((digit_or_error a i x >>= (λ high. digit_or_error b (i + 1) y >>= (λ low. Ok (high * 16 + low)))) >>= (λ byte. t >>= (λ bs. Ok (byte ∷ bs)))) ≡ Ok bytes →
        a ∷ b ∷ digits ≡ encode_lower bytes
    go None y t is_a is_b later at_a at_b plain_a plain_b h = cc
    go (Some high) None t is_a is_b later at_a at_b plain_a plain_b h = cc
    go (Some high) (Some low) (Err why) is_a is_b later at_a at_b plain_a plain_b h = cc
    go (Some high) (Some low) (Ok bs) is_a is_b later at_a at_b plain_a plain_b h =
        written a b high low digits bs (at_a high plain_a is_a) (at_b low plain_b is_b) (later bs refl)
        ∙ ap encode_lower (ok_same ((high * 16 + low) ∷ bs) bytes h)

bytes_small : (bytes : List ℕ) → IsBytes bytes → from_be_bytes w32 bytes < 2 ^ 32
bytes_small bytes h = omega (arith, h 0, h 1, h 2, h 3)

from_hex : (digits : List ℕ) (n : ℕ) → hex_number digits ≡ Some n → (digits ≡ eight_digits n) × (n < 2 ^ 32)
unfolding hex_number
from_hex digits n h = go (has_upper_case digits) (decode_sized digits 4) refl refl h
  where
    go : (b : Bool) (r : Result (List ℕ) FromHexError) → has_upper_case digits ≡ b → decode_sized digits 4 ≡ r →
        (if b then None else number_of_bytes r) ≡ Some n → (digits ≡ eight_digits n) × (n < 2 ^ 32)
    go true r upper is h = cc
    go false (Err why) upper is h = cc
    go false (Ok bytes) upper is h =
        let long = decode_sized-ok digits 4 bytes is in
        let whole : decode_of digits ≡ Ok bytes = sym (decode_sized-twice digits 4 long) ∙ is in
        let ok = decode_of-ok digits bytes whole in
        let pairs : decode_pairs 0 digits ≡ Ok bytes = sym (decode_of-even digits ok.0) ∙ whole in
        let same : from_be_bytes w32 bytes ≡ n = same_Some (from_be_bytes w32 bytes) n h in (
          pairs_lower 0 digits bytes upper pairs
              ∙ ap encode_lower (sym (be_bytes_4 bytes n (omega (arith, ok.2, long)) ok.3 (sym same))),
          rw same at (bytes_small bytes ok.3),
        )

pub from_eight : (text : List ℕ) (n : ℕ) (rest : List ℕ) → eight text ≡ Some (n, rest) →
    (text ≡ eight_digits n ++ rest) × (n < 2 ^ 32)
unfolding eight
from_eight text n rest h =
    let a = map_from (λ (m : ℕ). (m, drop 8 text)) (hex_number (take 8 text)) (n, rest) h in
    let digits = from_hex (take 8 text) a.0 a.1 in
    let same : a.0 ≡ n = ap (λ (p : ℕ × List ℕ). p.0) a.2 in (
      sym (take-append-drop 8 text) ∙ ap (λ t. t ++ drop 8 text) digits.0
          ∙ ap (λ (p : ℕ × List ℕ). eight_digits p.0 ++ p.1) a.2,
      rw same at digits.1,
    )

-- ---- one item

-- each item of a table is so
abbrev EachIs : {X : Type 0} → (X → Type 0) → List (List ℕ × X) → Type 0
EachIs P [] = Unit {0}
EachIs P ((word, x) ∷ others) = P x × EachIs P others

named_is : {X : Type 0} (P : X → Type 0) (table : List (List ℕ × X)) → EachIs P table →
    (text : List ℕ) (x : X) (rest : List ℕ) → named table text ≡ Some (x, rest) → P x
unfolding named
named_is P [] each text x rest h = cc
named_is {X} P ((word, y) ∷ others) each text x rest h =
    elim (or_from (option_map (λ r. (y, r)) (behind word text)) (named others text) (x, rest) h) [
      | inl here ↦
          let b = map_from (λ (r : List ℕ). (y, r)) (behind word text) (x, rest) here in
          subst (λ (p : X × List ℕ). P p.0) b.2 each.0
      | inr later ↦ named_is P others each.1 text x rest later
    ]

-- a number of eight digits behind a word
worded : {X : Type 0} (make : ℕ → X) (word text : List ℕ) (x : X) (rest : List ℕ) →
    made make (option_and_then eight (behind word text)) ≡ Some (x, rest) →
    (n : ℕ) × (make n ≡ x) × (n < 2 ^ 32) × (text ≡ word ++ (eight_digits n ++ rest))
worded {X} make word text x rest h =
    let a = map_from (λ ((n, more) : ℕ × List ℕ). (make n, more)) (option_and_then eight (behind word text)) (x, rest) h in
    let b = then_from eight (behind word text) a.0 a.1 in
    let digits = from_eight b.0 a.0.0 a.0.1 b.2 in
    let end : a.0.1 ≡ rest = ap (λ (p : X × List ℕ). p.1) a.2 in (
      a.0.0,
      ap (λ (p : X × List ℕ). p.0) a.2,
      digits.1,
      from_behind word text b.0 b.1 ∙ ap (λ t. word ++ t) (digits.0 ∙ ap (λ t. eight_digits a.0.0 ++ t) end),
    )

pub from_choice : (text : List ℕ) (c : Choice) (rest : List ℕ) → choice text ≡ Some (c, rest) →
    (text ≡ choice_text c ++ rest) × IsSmallChoice c
unfolding choice
from_choice text c rest h =
    elim (or_from (named plain_choices text) (made Value (option_and_then eight (behind (codes "=") text))) (c, rest) h) [
      | inl plain ↦ (
        from_named choice_text plain_choices (refl, (refl, (refl, tt))) text c rest plain,
        named_is IsSmallChoice plain_choices (tt, (tt, (tt, tt))) text c rest plain,
      )
      | inr value ↦
          let w = worded Value (codes "=") text c rest value in
          (w.3 ∙ ap (λ d. choice_text d ++ rest) w.1, subst IsSmallChoice w.1 w.2)
    ]

pub from_step : (text : List ℕ) (s : PathStep) (rest : List ℕ) → step text ≡ Some (s, rest) →
    (text ≡ step_text s ++ rest) × IsSmallStep s
unfolding step
from_step text s rest h =
    elim (or_from (named branches text) (made Target (option_and_then eight (behind (codes "@") text))) (s, rest) h) [
      | inl plain ↦ (
        from_named step_text branches (refl, (refl, tt)) text s rest plain,
        named_is IsSmallStep branches (tt, (tt, tt)) text s rest plain,
      )
      | inr target ↦
          let w = worded Target (codes "@") text s rest target in
          (w.3 ∙ ap (λ d. step_text d ++ rest) w.1, subst IsSmallStep w.1 w.2)
    ]

-- ---- all items

module _ {X : Type 0} (read : Reader X) (print : X → List ℕ) (IsSmall : X → Type 0)
    (from : (text : List ℕ) (x : X) (rest : List ℕ) → read text ≡ Some (x, rest) → (text ≡ print x ++ rest) × IsSmall x) where
  from_items : (most : ℕ) (text : List ℕ) (xs : List X) (rest : List ℕ) → items read most text ≡ Some (xs, rest) →
      (text ≡ flat_map print xs ++ (list_end ++ rest)) × All IsSmall xs
  unfolding items
  from_items zero text xs rest h = cc
  from_items (suc more) text xs rest h =
      elim (or_from (option_map (λ r. ([], r)) (behind list_end text)) (option_and_then (λ (x, r). made (λ xs. x ∷ xs) (items read more r)) (read text)) (xs, rest) h) [
        | inl here ↦
            let b = map_from (λ (r : List ℕ). ([], r)) (behind list_end text) (xs, rest) here in
            subst (λ (p : List X × List ℕ). (text ≡ flat_map print p.0 ++ (list_end ++ p.1)) × All IsSmall p.0) b.2
            (from_behind list_end text b.0 b.1, All-nil IsSmall)
        | inr later ↦
            let a = then_from (λ ((x, r) : X × List ℕ). made (λ (xs : List X). x ∷ xs) (items read more r)) (read text) (xs, rest) later in
            let b = map_from (λ ((ys, r) : List X × List ℕ). (a.0.0 ∷ ys, r)) (items read more a.0.1) (xs, rest) a.2 in
            let first = from text a.0.0 a.0.1 a.1 in
            let others = from_items more a.0.1 b.0.0 b.0.1 b.1 in
            subst (λ (p : List X × List ℕ). (text ≡ flat_map print p.0 ++ (list_end ++ p.1)) × All IsSmall p.0) b.2 (
              first.0 ∙ ap (λ t. print a.0.0 ++ t) others.0 ∙ sym (append_assoc (print a.0.0) (flat_map print b.0.0) (list_end ++ b.0.1)),
              All-cons IsSmall a.0.0 b.0.0 first.1 others.1,
            )
      ]

pub from_choices : (most : ℕ) (text : List ℕ) (cs : List Choice) (rest : List ℕ) → items choice most text ≡ Some (cs, rest) →
    (text ≡ flat_map choice_text cs ++ (list_end ++ rest)) × All IsSmallChoice cs
from_choices = from_items choice choice_text IsSmallChoice from_choice

pub from_steps : (most : ℕ) (text : List ℕ) (steps : List PathStep) (rest : List ℕ) → items step most text ≡ Some (steps, rest) →
    (text ≡ flat_map step_text steps ++ (list_end ++ rest)) × All IsSmallStep steps
from_steps = from_items step step_text IsSmallStep from_step
