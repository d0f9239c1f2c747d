-- Rows that are made without gates are the standard's.
use Rattle.std.proofs.Common.{◌≡◌, ℕ, zero, suc, ◌+◌, ◌-◌, ◌*◌, ◌/◌, ◌%◌, ◌^◌, ◌<◌, ◌≤◌, nat_le, Bool, true, false, if◌then◌else◌, List, ◌++◌, length, take, drop, replicate, refl, ap, sym, ◌∙◌, arith, add_comm}
use Rattle.std.proofs.Math.Nat.{mul_comm, mul-add, mul-one}
use Rattle.std.proofs.lemmas.Nat.{pow-add, field_of}
use Rattle.std.proofs.lemmas.List.{length-append, length-replicate, length-take-le, length-drop, length-map}
use Rattle.cnf_form.specs.Literals.{Literal, negation}
use Rattle.cnf_form.specs.Valuations.{literal_value}
use Rattle.bv_dag.specs.BitVectors.{nat2bv, bvnot, extract, zero_extend, sign_extend, concat}
use Rattle.circuit_spec.specs.Bytes.{number_of_row}
use Rattle.circuit_spec.specs.Formulas.{constant}
use Rattle.circuit_spec.specs.Rows.{negations, number_row, top_of}
use Rattle.circuit_spec.specs.Meaning.{row_value}
use Rattle.circuit_spec.proofs.Truths.{constant_value}
use Rattle.circuit_spec.proofs.Words.{word}
use Rattle.circuit_spec.proofs.Numbers.{number_number_row, number_append, falses_above, number_trues, number_take, number_drop}
use Rattle.circuit_spec.proofs.TopValues.{Topped, topped}
use Rattle.circuit_spec.proofs.Moves.{negated_number}

length_number_row : (w n : ℕ) → length (number_row w n) ≡ w
unfolding number_row
length_number_row zero n = refl
length_number_row (suc w) n = ap suc (length_number_row w (n / 2))

pub number_means : (v : ℕ → Bool) (w n : ℕ) → v 1 ≡ true → row_value v (number_row w n) ≡ nat2bv w n
number_means v w n truth = word _ _ _ _ (length_number_row w n) (number_number_row v truth w n)

pub not_means : (v : ℕ → Bool) (a : List Literal) → row_value v (negations a) ≡ bvnot (row_value v a)
unfolding bvnot
not_means v a = word _ _ _ _ (length-map a negation) (negated_number v a (length a) refl)

-- a part of a row
part_length : (high low n : ℕ) → low ≤ high → n ≡ high + 1 → n - low ≡ high - low + 1
part_length high low n order is = omega arith

part_places : (high low : ℕ) → low ≤ high → high + 1 ≡ (high - low + 1) + low
part_places high low order = omega arith

pub extract_means : (v : ℕ → Bool) (high low : ℕ) (a : List Literal) → low ≤ high → high < length a → row_value v (drop low (take (high + 1) a)) ≡ extract high low (row_value v a)
unfolding extract
extract_means v high low a order within =
    word _ _ _ _
    (length-drop low (take (high + 1) a) ∙ part_length high low (length (take (high + 1) a)) order (length-take-le (high + 1) a (omega arith)))
    (number_drop v low (take (high + 1) a) ∙ ap (λ m. m / 2 ^ low) (number_take v (high + 1) a ∙ ap (λ k. number_of_row v a % 2 ^ k) (part_places high low order))
    ∙ field_of (number_of_row v a) (high - low + 1) low)

-- more bits above a row
copies_length : (a : List Literal) (by : ℕ) (l : Literal) → length (a ++ replicate by l) ≡ length a + by
copies_length a by l = length-append a (replicate by l) ∙ ap (λ k. length a + k) (length-replicate by l)

pub zero_extend_means : (v : ℕ → Bool) (by : ℕ) (a : List Literal) → v 1 ≡ true → row_value v (a ++ replicate by (constant false)) ≡ zero_extend by (row_value v a)
unfolding zero_extend
zero_extend_means v by a truth =
    word _ _ _ _ (copies_length a by (constant false)) (falses_above v a by (constant false) (constant_value v truth false))

-- p * (q - 1) as p * q - p
ones_above : (n p q z all : ℕ) → p * z + p ≡ all → n + p * z ≡ n + (all - p)
ones_above n p q z all whole = omega arith

ones_whole : (p q z all : ℕ) → z + 1 ≡ q → all ≡ p * q → p * z + p ≡ all
ones_whole p q z all more product =
    ap (λ k. p * z + k) (sym (mul-one p)) ∙ sym (mul-add p z 1) ∙ ap (λ k. p * k) more ∙ sym product

extended : (v : ℕ → Bool) (by : ℕ) (a : List Literal) (l : Literal) (t : Bool) → literal_value v l ≡ t
    → number_of_row v (a ++ replicate by l) ≡ (if t then number_of_row v a + (2 ^ (length a + by) - 2 ^ length a) else number_of_row v a)
extended v by a l true is =
    number_append v a (replicate by l)
    ∙ ones_above (number_of_row v a) (2 ^ length a) (2 ^ by) (number_of_row v (replicate by l)) (2 ^ (length a + by))
    (ones_whole (2 ^ length a) (2 ^ by) (number_of_row v (replicate by l)) (2 ^ (length a + by)) (number_trues v by l is) (pow-add 2 (length a) by))
extended v by a l false is = falses_above v a by l is

pub sign_extend_means : (v : ℕ → Bool) (by : ℕ) (a : List Literal) → 0 < length a → row_value v (a ++ replicate by (top_of a)) ≡ sign_extend by (row_value v a)
unfolding sign_extend
sign_extend_means v by a some =
    let top : Topped v a (2 ^ (length a - 1)) (number_of_row v (take (length a - 1) a)) = topped v a some in
    word _ _ _ _ (copies_length a by (top_of a)) (extended v by a (top_of a) (nat_le (2 ^ (length a - 1)) (number_of_row v a)) (sym top.sign))

-- one row above another
pub concat_means : (v : ℕ → Bool) (high low : List Literal) → row_value v (low ++ high) ≡ concat (row_value v high) (row_value v low)
unfolding concat
concat_means v high low =
    word _ _ _ _ (length-append low high ∙ add_comm (length low) (length high))
    (number_append v low high ∙ add_comm (number_of_row v low) (2 ^ length low * number_of_row v high) ∙ ap (λ m. m + number_of_row v low) (mul_comm (2 ^ length low) (number_of_row v high)))
