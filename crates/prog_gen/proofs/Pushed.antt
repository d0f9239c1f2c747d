-- The words as they are pushed.
use Rattle.std.proofs.Common.{◌≡◌, ℕ, zero, suc, ◌+◌, ◌*◌, ◌<◌, ◌≤◌, List, ◌++◌, length, refl, sym, ap, ◌∙◌, append_assoc, append-nil, arith}
use Rattle.std.proofs.lemmas.List.{length-append}
use Rattle.std.specs.List.{flat_map, range_with_len}
use Rattle.prog_gen.specs.Words.{begin_words, byte_words, end_words, program_words}

one_more : (f : ℕ → List ℕ) (a n : ℕ) → flat_map f (range_with_len a (suc n)) ≡ flat_map f (range_with_len a n) ++ f (a + n)
one_more f a zero =
    let same : a ≡ a + 0 = omega arith in
    append-nil (f a) ∙ ap f same
one_more f a (suc n) =
    let same : a + 1 + n ≡ a + suc n = omega arith in
    ap (λ words. f a ++ words) (one_more f (a + 1) n)
    ∙ sym (append_assoc (f a) (flat_map f (range_with_len (a + 1) n)) (f (a + 1 + n)))
    ∙ ap (λ m. (f a ++ flat_map f (range_with_len (a + 1) n)) ++ f m) same

-- the words up to the byte at this place
abbrev pub up_to : (number place : ℕ) → List ℕ
up_to number place = begin_words ++ flat_map (byte_words number) (range_with_len 0 place)

pub push_one : (number place : ℕ) (old new : List ℕ) → old ≡ up_to number place → new ≡ old ++ byte_words number place → new ≡ up_to number (place + 1)
push_one number place old new was pushed =
    let next : place + 1 ≡ suc place = omega arith in
    let here : 0 + place ≡ place = omega arith in
    pushed ∙ ap (λ words. words ++ byte_words number place) was
    ∙ append_assoc begin_words (flat_map (byte_words number) (range_with_len 0 place)) (byte_words number place)
    ∙ ap (λ n. begin_words ++ (flat_map (byte_words number) (range_with_len 0 place) ++ byte_words number n)) (sym here)
    ∙ ap (λ words. begin_words ++ words) (sym (one_more (byte_words number) 0 place))
    ∙ sym (ap (up_to number) next)

pub all_pushed : (number place : ℕ) (old new : List ℕ) → number ≤ place → place ≤ number → old ≡ up_to number place → new ≡ old ++ end_words number → new ≡ program_words number
unfolding program_words
all_pushed number place old new passed within was pushed =
    let all : place ≡ number = omega arith in
    pushed ∙ ap (λ words. words ++ end_words number) (was ∙ ap (up_to number) all)

-- ---- how many there are

length_bytes : (number a n : ℕ) → length (flat_map (byte_words number) (range_with_len a n)) ≡ 5 * n
length_bytes number a zero = refl
length_bytes number a (suc n) =
    let rest = length_bytes number (a + 1) n in
    length-append (byte_words number a) (flat_map (byte_words number) (range_with_len (a + 1) n)) ∙ omega (arith, rest)

pub few_words : (number : ℕ) (words : List ℕ) → number ≤ 12 → words ≡ program_words number → length words < 1073741824
unfolding program_words
few_words number words few is =
    let whole = ap length is ∙ length-append (up_to number number) (end_words number) in
    let front = length-append begin_words (flat_map (byte_words number) (range_with_len 0 number)) in
    let middle = length_bytes number 0 number in
    omega (arith, whole, front, middle)
