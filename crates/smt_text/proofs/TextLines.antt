use Rattle.std.proofs.Common.{◌≡◌, ℕ, zero, suc, ◌<◌, ◌≤◌, ◌+◌, ◌-◌, refl, List, [], ◌∷◌, ◌++◌, get_or, length, map, take, ap, sym, ◌∙◌, arith, append_assoc, add-one, add-zero}
use Rattle.std.proofs.lemmas.List.{append-nil, flat_map_more, map-append, take_more}
use Rattle.std.specs.List.{enumerate_from}
use Rattle.smt_text.specs.Lines.{LeafLine, InputLine, line_text, lines_text}
use Rattle.smt_text.specs.LeafLines.{input_lines}

-- no lines yet
pub no_lines : (old text : List ℕ) → text ≡ old → text ≡ old ++ lines_text []
unfolding lines_text
no_lines old text e = e ∙ sym (append-nil old)

-- one line
pub one_line : (line : LeafLine) → line_text line ≡ lines_text (line ∷ [])
unfolding lines_text
one_line line = sym (append-nil (line_text line))

-- one line behind others
pub push_line : (old text new : List ℕ) (lines : List LeafLine) (line : LeafLine) →
    text ≡ old ++ lines_text lines → new ≡ text ++ line_text line →
    new ≡ old ++ lines_text (lines ++ line ∷ [])
unfolding lines_text
push_line old text new lines line e more =
    more ∙ ap (λ t. t ++ line_text line) e ∙ append_assoc old (lines_text lines) (line_text line)
    ∙ ap (λ t. old ++ t) (flat_map_more line_text [] lines line)

-- the step of a loop that appends a line for each item
pub mapped_step : {X : Type 0} (f : X →
    LeafLine) (xs : List X) (i : ℕ) (d : X) (old before after : List ℕ) → i < length xs →
    before ≡ old ++ lines_text (map f (take i xs)) → after ≡ before ++ line_text (f (get_or xs i d)) →
    after ≡ old ++ lines_text (map f (take (i + 1) xs))
mapped_step f xs i d old before after h e more =
    push_line old before after (map f (take i xs)) (f (get_or xs i d)) e more
    ∙ ap (λ lines. old ++ lines_text lines) (sym (ap (map f) (take_more xs i d h) ∙ map-append f (take i xs) (get_or xs i d ∷ [])))

numbered_suc : {X : Type 0} (n : ℕ) (xs : List X) (i : ℕ) (d : X) → i < length xs →
    enumerate_from n (take (suc i) xs) ≡ enumerate_from n (take i xs) ++ (n + i, get_or xs i d) ∷ []
numbered_suc n [] i d h = absurd (omega (arith, h))
numbered_suc n (x ∷ xs) zero d h = rw add-zero refl
numbered_suc n (x ∷ xs) (suc i) d h =
    let place : n + 1 + i ≡ n + suc i = omega arith in
    ap (λ ys. (n, x) ∷ ys) (numbered_suc (n + 1) xs i d (omega (arith, h)) ∙ ap (λ k. enumerate_from (n + 1) (take i xs) ++ (k, get_or xs i d) ∷ []) place)

-- the first items with their places, and one item more
numbered_next : {X : Type 0} (xs : List X) (i : ℕ) (d : X) → i < length xs →
    enumerate_from 0 (take (i + 1) xs) ≡ enumerate_from 0 (take i xs) ++ (i, get_or xs i d) ∷ []
numbered_next xs i d h =
    let place : 0 + i ≡ i = omega arith in
    rw add-one (numbered_suc 0 xs i d h ∙ ap (λ k. enumerate_from 0 (take i xs) ++ (k, get_or xs i d) ∷ []) place)

-- the step of a loop that appends a line for each item and its place
pub numbered_step : {X : Type 0} (f : (ℕ × X) →
    LeafLine) (xs : List X) (i : ℕ) (d : X) (old before after : List ℕ) → i < length xs →
    before ≡ old ++ lines_text (map f (enumerate_from 0 (take i xs))) →
    after ≡ before ++ line_text (f (i, get_or xs i d)) →
    after ≡ old ++ lines_text (map f (enumerate_from 0 (take (i + 1) xs)))
numbered_step f xs i d old before after h e more =
    push_line old before after (map f (enumerate_from 0 (take i xs))) (f (i, get_or xs i d)) e more
    ∙ ap (λ lines. old ++ lines_text lines) (sym (ap (map f) (numbered_next xs i d h) ∙ map-append f (enumerate_from 0 (take i xs)) ((i, get_or xs i d) ∷ [])))

-- a line for each input that is left
pub input_lines_next : (text new : List ℕ) (i n : ℕ) → i < n →
    new ≡ text ++ line_text (InputLine i) → new ++ lines_text (input_lines (i + 1) (n - (i + 1)))
    ≡ text ++ lines_text (input_lines i (n - i))
unfolding lines_text
input_lines_next text new i n h e =
    let left : n - i ≡ suc (n - (i + 1)) = omega arith in
    rw (left, e, append_assoc) refl

pub input_lines_end : (text : List ℕ) (i n : ℕ) → n ≤ i →
    text ≡ text ++ lines_text (input_lines i (n - i))
unfolding lines_text
input_lines_end text i n h =
    let left : n - i ≡ 0 = omega arith in
    rw left (sym (append-nil text))
