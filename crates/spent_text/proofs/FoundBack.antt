-- Values that were found are told by their text.
use Rattle.std.proofs.Common.{◌≡◌, ◌∙◌, ℕ, zero, suc, ◌<◌, ◌/◌, ◌%◌, true, false, ◌==◌, Bool, List, [], ◌∷◌, ◌++◌, Some, ap, arith, codes, length, refl, slice_index, sym}
use Rattle.std.specs.Prelude.{All, ◌||◌}
use Rattle.std.specs.List.{list_any}
use Rattle.std.proofs.lemmas.Bool.{eq-eqb}
use Rattle.std.proofs.lemmas.List.{append_cancel_left}
use Rattle.std.proofs.lemmas.List.Elements.{All-head, All-tail}
use Rattle.std.proofs.lemmas.Option.{same_Some}
use Rattle.hex.specs.Hex.{IsBytes, encode_lower, encode_with, lower_digits}
use Rattle.fork_spec.specs.Evidence.{Found}
use Rattle.text_parts.specs.Names.{eight_digits}
use Rattle.text_parts.specs.Pieces.{eight}
use Rattle.text_parts.proofs.DigitsBack.{bytes_by_digits, none_at}
use Rattle.text_parts.proofs.ItemsBack.{eight_back}
use Rattle.text_parts.proofs.Joined.{five_pieces}
use Rattle.spent_text.specs.FoundLine.{found_text}
use Rattle.spent_text.specs.Legible.{IsLegibleFound}

-- ---- up to the end of a line

-- a line feed
abbrev is_feed : ℕ → Bool
is_feed c = c == 10

no_feed : (c : ℕ) (a : List ℕ) {X : Type 0} → list_any is_feed (c ∷ a) ≡ false → 10 ≡ c → X
no_feed c a none is = go (is_feed c) (eq-eqb c 10 (sym is)) none
  where
    go : (b : Bool) {X : Type 0} → b ≡ true → (b || list_any is_feed a) ≡ false → X
    go true is none = cc
    go false is none = cc

no_feed_later : (c : ℕ) (a : List ℕ) → list_any is_feed (c ∷ a) ≡ false → list_any is_feed a ≡ false
no_feed_later c a none = go (is_feed c) none
  where
    go : (b : Bool) → (b || list_any is_feed a) ≡ false → list_any is_feed a ≡ false
    go true none = cc
    go false none = none

-- texts with no line feed are told up to the one behind them
line_end_told : (a b more rest : List ℕ) → list_any is_feed a ≡ false → list_any is_feed b ≡ false →
    a ++ 10 ∷ more ≡ b ++ 10 ∷ rest → (a ≡ b) × (more ≡ rest)
line_end_told [] [] more rest none also e = let same : more ≡ rest = cc in (refl, same)
line_end_told [] (c ∷ b) more rest none also e = let is : 10 ≡ c = cc in no_feed c b also is
line_end_told (c ∷ a) [] more rest none also e = let is : 10 ≡ c = cc in no_feed c a none is
line_end_told (c ∷ a) (d ∷ b) more rest none also e =
    let first : c ≡ d = cc in
    let later : a ++ 10 ∷ more ≡ b ++ 10 ∷ rest = cc in
    let left : (a ≡ b) × (more ≡ rest) = line_end_told a b more rest (no_feed_later c a none) (no_feed_later d b also) later in
    (ap (λ (x : ℕ). x ∷ a) first ∙ ap (λ (xs : List ℕ). d ∷ xs) left.0, left.1)

-- ---- bytes in hexadecimal digits

digit_no_feed : (k : ℕ) → is_feed (slice_index lower_digits k) ≡ false
digit_no_feed k = none_at is_feed refl lower_digits k refl

digits_no_feed : (bytes : List ℕ) → list_any is_feed (encode_lower bytes) ≡ false
unfolding encode_with
digits_no_feed [] = refl
digits_no_feed (b ∷ bytes) = rw (digit_no_feed (b / 16), digit_no_feed (b % 16)) (digits_no_feed bytes)

pub bytes_of : (xs : List ℕ) → All (λ b. b < 256) xs → IsBytes xs
bytes_of [] all i = omega arith
bytes_of (x ∷ xs) all zero = All-head (λ b. b < 256) x xs all
bytes_of (x ∷ xs) all (suc i) = bytes_of xs (All-tail (λ b. b < 256) x xs all) i

digits_told : (bytes others more rest : List ℕ) → All (λ b. b < 256) bytes → All (λ b. b < 256) others →
    encode_lower bytes ++ (codes "\n" ++ more) ≡ encode_lower others ++ (codes "\n" ++ rest) → (bytes ≡ others) × (more ≡ rest)
digits_told bytes others more rest all also e =
    let told = line_end_told (encode_lower bytes) (encode_lower others) more rest (digits_no_feed bytes) (digits_no_feed others) e in
    (bytes_by_digits bytes others (bytes_of bytes all) (bytes_of others also) told.0, told.1)

-- ---- the line of a value

pub found_told : (found other : Found) (more rest : List ℕ) → IsLegibleFound found → IsLegibleFound other → found_text found ++ more ≡ found_text other ++ rest →
    (found ≡ other) × (more ≡ rest)
found_told found other more rest legible also e =
    let left : List ℕ = codes " " ++ (encode_lower found.input ++ (codes "\n" ++ more)) in
    let also_left : List ℕ = codes " " ++ (encode_lower other.input ++ (codes "\n" ++ rest)) in
    let text : codes "v " ++ (eight_digits found.value ++ left) ≡ codes "v " ++ (eight_digits other.value ++ also_left) =
    sym (five_pieces (codes "v ") (eight_digits found.value) (codes " ") (encode_lower found.input) (codes "\n") more) ∙ e
    ∙ five_pieces (codes "v ") (eight_digits other.value) (codes " ") (encode_lower other.input) (codes "\n") rest in
    let behind_word : eight_digits found.value ++ left ≡ eight_digits other.value ++ also_left =
    append_cancel_left (codes "v ") (eight_digits found.value ++ left) (eight_digits other.value ++ also_left) text in
    let both : Some (found.value, left) ≡ Some (other.value, also_left) =
    sym (eight_back found.value left legible.0) ∙ ap eight behind_word ∙ eight_back other.value also_left also.0 in
    let pair = same_Some (found.value, left) (other.value, also_left) both in
    let value : found.value ≡ other.value = ap (λ (p : ℕ × List ℕ). p.0) pair in
    let told = digits_told found.input other.input more rest legible.1 also.1
    (append_cancel_left (codes " ") (encode_lower found.input ++ (codes "\n" ++ more)) (encode_lower other.input ++ (codes "\n" ++ rest)) (ap (λ (p : ℕ × List ℕ). p.1) pair)) in
    let input : found.input ≡ other.input = told.0 in
    (λ k. record { value = value k; input = input k }, told.1)

pub some_found : (found : Found) → 0 < length (found_text found)
some_found found = omega arith
