-- What a text begins with, piece by piece. A reader gives what it read and what stands behind it.
use Rattle.std.specs.Prelude.{ℕ, zero, suc, ◌^◌, Bool, false, not, ◌&&◌, ◌==◌, nat_lt, if◌then◌else◌, List, [], ◌∷◌, take, drop, Option, None, Some, codes, option_map, option_and_then}
use Rattle.std.specs.Option.{option_or}
use Rattle.std.specs.Char.{is_ascii_digit}
use Rattle.std.specs.List.{prefix_len}
use Rattle.std.specs.Str.Parse.{digits_value}
use Rattle.text_parts.specs.Digits.{has_leading_zero, hex_number}

abbrev pub Reader : Type 0 → Type 0
Reader X = List ℕ → Option (X × List ℕ)

-- what was read, made into something else
abbrev pub made : {X Y : Type 0} → (X → Y) → Option (X × List ℕ) → Option (Y × List ℕ)
made make found = option_map (λ (x, rest). (make x, rest)) found

-- ---- words

-- what stands behind a word that the text begins with
unfoldable pub behind : (word text : List ℕ) → Option (List ℕ)
behind [] text = Some text
behind (c ∷ word) [] = None
behind (c ∷ word) (d ∷ text) = if c == d then behind word text else None

-- what one of the words means
unfoldable pub named : {X : Type 0} → List (List ℕ × X) → Reader X
named [] text = None
named ((word, x) ∷ others) text =
    option_or (option_map (λ rest. (x, rest)) (behind word text)) (named others text)

-- what is read before a word
abbrev pub before : {X : Type 0} → Reader X → (word : List ℕ) → Reader X
before read word text =
    option_and_then (λ (x, rest). option_map (λ more. (x, more)) (behind word rest)) (read text)

-- ---- numbers

-- decimal digits with no leading zero, of a number below 2 ^ 64
abbrev pub is_plain : List ℕ → Bool
is_plain [] = false
is_plain (first ∷ rest) =
    not (has_leading_zero (first ∷ rest)) && nat_lt (digits_value 10 (first ∷ rest)) (2 ^ 64)

unfoldable pub plain_number : (digits : List ℕ) → Option ℕ
plain_number digits = if is_plain digits then Some (digits_value 10 digits) else None

-- how many decimal digits the text begins with
abbrev pub digit_count : List ℕ → ℕ
digit_count text = prefix_len is_ascii_digit text

-- the number that all digits at the beginning say
unfoldable pub number : Reader ℕ
number text =
    option_map (λ n. (n, drop (digit_count text) text))
    (plain_number (take (digit_count text) text))

-- a number before a word
unfoldable pub one : (word : List ℕ) → Reader ℕ
one word text = before number word text

-- two, each before a word
unfoldable pub two : (word other : List ℕ) → Reader (ℕ × ℕ)
two word other text =
    option_and_then (λ (a, rest). made (λ b. (a, b)) (one other rest)) (one word text)

-- three, each before a word
unfoldable pub three : (word other third : List ℕ) → Reader (ℕ × ℕ × ℕ)
three word other third text =
    option_and_then (λ (a, rest). made (λ (b, c). (a, b, c)) (two other third rest)) (one word text)

-- the number that the first eight bytes say
unfoldable pub eight : Reader ℕ
eight text = option_map (λ n. (n, drop 8 text)) (hex_number (take 8 text))

-- ---- lists

-- the end of a list
abbrev pub list_end : List ℕ
list_end = codes ".\n"

-- items with nothing between, up to the end of the list; no more than are said
unfoldable pub items : {X : Type 0} → Reader X → (most : ℕ) → Reader (List X)
items read zero text = None
items read (suc more) text =
    option_or (option_map (λ rest. ([], rest)) (behind list_end text))
    (option_and_then (λ (x, rest). made (λ xs. x ∷ xs) (items read more rest)) (read text))
