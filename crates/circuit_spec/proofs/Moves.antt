-- A row moved by some places is its number shifted.
use Rattle.std.proofs.Common.{◌≡◌, ℕ, zero, suc, ◌+◌, ◌-◌, ◌*◌, ◌/◌, ◌%◌, ◌^◌, ◌<◌, Bool, true, false, not, List, ◌∷◌, ◌++◌, length, take, drop, replicate, refl, ap, sym, ◌∙◌, arith, zero-add}
use Rattle.std.proofs.Math.Nat.{mul_comm}
use Rattle.std.proofs.lemmas.List.{length-append, length-replicate, length-take-le, length-drop, map-append, drop-map}
use Rattle.cnf_form.specs.Literals.{Literal, negation}
use Rattle.cnf_form.specs.Valuations.{literal_value}
use Rattle.circuit_spec.specs.Bytes.{number_of_row}
use Rattle.circuit_spec.specs.Rows.{negations}
use Rattle.circuit_spec.specs.Shifts.{moved}
use Rattle.circuit_spec.specs.declared.direction.Direction.TheVariants.{Up, Down}
use Rattle.circuit_spec.proofs.Truths.{value_not}
use Rattle.circuit_spec.proofs.Numbers.{number_append, number_falses, falses_above, number_trues, number_negations, number_take, number_drop}
use Rattle.circuit_spec.proofs.Shifting.{up, down, down_ones, up_is, down_is, down_ones_is, up_placed}
use Rattle.circuit_spec.proofs.ShiftValues.{IsMove}

sum_of_places : (a b l w : ℕ) → a ≡ b → l ≡ w - b → b < w → a + l ≡ w
sum_of_places a b l w first rest less = omega arith

sum_down : (a b l w : ℕ) → a ≡ w - b → l ≡ b → b < w → a + l ≡ w
sum_down a b l w first rest less = omega arith

up_keeps : (fill : Literal) (w : ℕ) (row : List Literal) (by : ℕ) → length row ≡ w → by < w → length (moved Up fill by row) ≡ w
up_keeps fill w row by width less =
    length-append (replicate by fill) (take (length row - by) row)
    ∙ sum_of_places (length (replicate by fill)) by (length (take (length row - by) row)) w (length-replicate by fill)
    (length-take-le (length row - by) row (omega arith) ∙ ap (λ n. n - by) width) less

down_keeps : (fill : Literal) (w : ℕ) (row : List Literal) (by : ℕ) → length row ≡ w → by < w → length (moved Down fill by row) ≡ w
down_keeps fill w row by width less =
    length-append (drop by row) (replicate by fill)
    ∙ sum_down (length (drop by row)) by (length (replicate by fill)) w (length-drop by row ∙ ap (λ n. n - by) width) (length-replicate by fill) less

up_moves : (v : ℕ → Bool) (fill : Literal) → literal_value v fill ≡ false → (w : ℕ) (row : List Literal) (by : ℕ) → length row ≡ w → by < w → number_of_row v (moved Up fill by row) ≡ up w (number_of_row v row) by
up_moves v fill is w row by width less =
    number_append v (replicate by fill) (take (length row - by) row)
    ∙ ap (λ m. m + 2 ^ length (replicate by fill) * number_of_row v (take (length row - by) row)) (number_falses v by fill is)
    ∙ zero-add (2 ^ length (replicate by fill) * number_of_row v (take (length row - by) row))
    ∙ ap (λ k. 2 ^ k * number_of_row v (take (length row - by) row)) (length-replicate by fill)
    ∙ ap (λ m. 2 ^ by * m) (number_take v (length row - by) row ∙ ap (λ k. number_of_row v row % 2 ^ (k - by)) width)
    ∙ mul_comm (2 ^ by) (number_of_row v row % 2 ^ (w - by))
    ∙ sym (up_placed w (number_of_row v row) by (omega arith))

down_moves : (v : ℕ → Bool) (fill : Literal) → literal_value v fill ≡ false → (row : List Literal) (by : ℕ) → number_of_row v (moved Down fill by row) ≡ down (number_of_row v row) by
down_moves v fill is row by = falses_above v (drop by row) by fill is ∙ number_drop v by row

pub up_move : (v : ℕ → Bool) (fill : Literal) → literal_value v fill ≡ false → (w : ℕ) → IsMove v Up fill w (up w) 0
up_move v fill is w = record { shift = up_is w; fills = number_falses v w fill is; keeps = up_keeps fill w; moves = up_moves v fill is w }

pub down_move : (v : ℕ → Bool) (fill : Literal) → literal_value v fill ≡ false → (w : ℕ) → IsMove v Down fill w down 0
down_move v fill is w = record { shift = down_is w; fills = number_falses v w fill is; keeps = down_keeps fill w; moves = λ row by width less. down_moves v fill is row by }

-- with ones coming free: the negations of what is moved, with zeros
map_copies : (n : ℕ) (l : Literal) → negations (replicate n l) ≡ replicate n (negation l)
map_copies zero l = refl
map_copies (suc n) l = ap (λ ls. negation l ∷ ls) (map_copies n l)

negated_moved : (fill : Literal) (by : ℕ) (row : List Literal) → negations (moved Down fill by row) ≡ moved Down (negation fill) by (negations row)
negated_moved fill by row =
    map-append negation (drop by row) (replicate by fill)
    ∙ ap (λ ls. ls ++ negations (replicate by fill)) (sym (drop-map negation by row))
    ∙ ap (λ ls. drop by (negations row) ++ ls) (map_copies by fill)

other_side : (m n p : ℕ) → m + n + 1 ≡ p → m ≡ p - 1 - n
other_side m n p all = omega arith

this_side : (m n p : ℕ) → m + n + 1 ≡ p → n ≡ p - 1 - m
this_side m n p all = omega arith

pub negated_number : (v : ℕ → Bool) (row : List Literal) (w : ℕ) → length row ≡ w → number_of_row v (negations row) ≡ 2 ^ w - 1 - number_of_row v row
negated_number v row w width =
    other_side (number_of_row v (negations row)) (number_of_row v row) (2 ^ w) (number_negations v row ∙ ap (λ k. 2 ^ k) width)

down_ones_moves : (v : ℕ → Bool) (fill : Literal) → literal_value v fill ≡ true → (w : ℕ) (row : List Literal) (by : ℕ) → length row ≡ w → by < w
    → number_of_row v (moved Down fill by row) ≡ down_ones w (number_of_row v row) by
down_ones_moves v fill is w row by width less =
    let free : literal_value v (negation fill) ≡ false = value_not v fill ∙ ap not is in
    let negated : number_of_row v (negations (moved Down fill by row)) ≡ (2 ^ w - 1 - number_of_row v row) / 2 ^ by
    = ap (number_of_row v) (negated_moved fill by row) ∙ down_moves v (negation fill) free (negations row) by ∙ ap (λ m. m / 2 ^ by) (negated_number v row w width) in
    this_side (number_of_row v (negations (moved Down fill by row))) (number_of_row v (moved Down fill by row)) (2 ^ w)
    (number_negations v (moved Down fill by row) ∙ ap (λ k. 2 ^ k) (down_keeps fill w row by width less))
    ∙ ap (λ m. 2 ^ w - 1 - m) negated

all_ones : (n p : ℕ) → n + 1 ≡ p → n ≡ p - 1
all_ones n p is = omega arith

pub down_ones_move : (v : ℕ → Bool) (fill : Literal) → literal_value v fill ≡ true → (w : ℕ) → IsMove v Down fill w (down_ones w) (2 ^ w - 1)
down_ones_move v fill is w = record {
  shift = down_ones_is w;
  fills = all_ones (number_of_row v (replicate w fill)) (2 ^ w) (number_trues v w fill is);
  keeps = down_keeps fill w;
  moves = down_ones_moves v fill is w;
}
