-- A row's number, read from the top place down.
use Rattle.std.proofs.Common.{◌≡◌, ℕ, ◌+◌, ◌*◌, ◌^◌, ◌<◌, ◌≤◌, Bool, List, length, get_or, drop, ap, sym, ◌∙◌, arith}
use Rattle.std.proofs.Math.Nat.{pow-le-pow_right}
use Rattle.std.proofs.lemmas.List.{drop_all, length-drop}
use Rattle.cnf_form.specs.Literals.{Literal}
use Rattle.cnf_form.specs.Valuations.{literal_value}
use Rattle.circuit_spec.specs.Bytes.{bit_of, number_of_row}
use Rattle.circuit_spec.proofs.Numbers.{number_nil, number_cons, number_bound}
use Rattle.bit_blast.proofs.Walks.{opened}

-- the bits above place i of at most eight are at most seven
pub high_bound : (v : ℕ → Bool) (row : List Literal) (i j : ℕ) → j ≡ i + 1 → length row ≤ 8 → number_of_row v (drop j row) < 128
high_bound v row i j next few =
    let rest : number_of_row v (drop j row) < 2 ^ length (drop j row) = number_bound v (drop j row) in
    let short : length (drop j row) ≤ 7 = rw (length-drop j row) (omega arith) in
    let power : 2 ^ length (drop j row) ≤ 2 ^ 7 = pow-le-pow_right (omega arith) short in
    omega arith

pub number_more : (v : ℕ → Bool) (row : List Literal) (i j n : ℕ) (x : Literal) → i < length row → j ≡ i + 1 → x ≡ get_or row i x → n ≡ number_of_row v (drop j row)
    → bit_of (literal_value v x) + 2 * n ≡ number_of_row v (drop i row)
number_more v row i j n x within next at above =
    sym (ap (number_of_row v) (opened row i x within at) ∙ number_cons v x (drop (i + 1) row)
    ∙ ap (λ m. bit_of (literal_value v x) + 2 * number_of_row v (drop m row)) (sym next) ∙ ap (λ m. bit_of (literal_value v x) + 2 * m) (sym above))

pub number_start : (v : ℕ → Bool) (row : List Literal) (i : ℕ) → length row ≤ i → 0 ≡ number_of_row v (drop i row)
number_start v row i past = sym (ap (number_of_row v) (drop_all i row past) ∙ number_nil v)
