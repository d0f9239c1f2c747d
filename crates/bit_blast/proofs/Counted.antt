-- Rows that are made place by place, with so many places left.
use Rattle.std.proofs.Common.{◌≡◌, ℕ, suc, ◌+◌, ◌-◌, ◌/◌, ◌%◌, ◌==◌, ◌<◌, ◌≤◌, List, [], ◌∷◌, ◌++◌, ap, sym, arith, append_assoc, append-nil}
use Rattle.cnf_form.specs.Literals.{Literal}
use Rattle.circuit_spec.specs.Formulas.{Formula, constant, next_variable, with_variable}
use Rattle.circuit_spec.specs.Rows.{fresh_row, number_row}
use Rattle.bit_blast.proofs.Walks.{with_before}

one_less : (w i : ℕ) → i < w → w - i ≡ suc (w - (i + 1))
one_less w i within = omega arith

none_left : (w i : ℕ) → w ≤ i → w - i ≡ 0
none_left w i past = omega arith

fresh_step : (n : ℕ) (front : List Literal) (f : Formula) → with_before (front ++ next_variable f ∷ []) (fresh_row n (with_variable f)) ≡ with_before front (fresh_row (suc n) f)
unfolding fresh_row
fresh_step n front f =
    let rest : List Literal × Formula = fresh_row n (with_variable f) in
    ap {B = List Literal × Formula} (λ ks. (ks, rest.1)) (append_assoc front (next_variable f ∷ []) rest.0)

pub fresh_more : (w i : ℕ) (front : List Literal) (f : Formula) → i < w → with_before (front ++ next_variable f ∷ []) (fresh_row (w - (i + 1)) (with_variable f)) ≡ with_before front (fresh_row (w - i) f)
fresh_more w i front f within = rw (one_less w i within) (fresh_step (w - (i + 1)) front f)

fresh_none : (front : List Literal) (f : Formula) → with_before front (fresh_row 0 f) ≡ (front, f)
unfolding fresh_row
fresh_none front f = ap {B = List Literal × Formula} (λ ks. (ks, f)) (append-nil front)

pub fresh_end : (w i : ℕ) (front : List Literal) (f : Formula) → w ≤ i → (front, f) ≡ with_before front (fresh_row (w - i) f)
fresh_end w i front f past = sym (rw (none_left w i past) (fresh_none front f))

number_row_step : (w n : ℕ) (front : List Literal) → (front ++ constant (n % 2 == 1) ∷ []) ++ number_row w (n / 2) ≡ front ++ number_row (suc w) n
unfolding number_row
number_row_step w n front = append_assoc front (constant (n % 2 == 1) ∷ []) (number_row w (n / 2))

pub number_row_more : (w i n : ℕ) (front : List Literal) → i < w → (front ++ constant (n % 2 == 1) ∷ []) ++ number_row (w - (i + 1)) (n / 2) ≡ front ++ number_row (w - i) n
number_row_more w i n front within = rw (one_less w i within) (number_row_step (w - (i + 1)) n front)

number_row_none : (n : ℕ) (front : List Literal) → front ++ number_row 0 n ≡ front
unfolding number_row
number_row_none n front = append-nil front

pub number_row_end : (w i n : ℕ) (front : List Literal) → w ≤ i → front ≡ front ++ number_row (w - i) n
number_row_end w i n front past = sym (rw (none_left w i past) (number_row_none n front))
