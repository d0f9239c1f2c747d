-- Sums, differences and negations are the standard's.
use Rattle.std.proofs.Common.{◌≡◌, ℕ, ◌+◌, ◌-◌, ◌^◌, ◌%◌, Bool, true, false, List, length, ap, sym, ◌∙◌, arith, zero-add, add-zero}
use Rattle.std.proofs.lemmas.List.{length-map, length-replicate}
use Rattle.cnf_form.specs.Literals.{Literal, negation}
use Rattle.cnf_form.specs.Valuations.{literal_value}
use Rattle.bv_dag.specs.BitVectors.{bvadd, bvsub, bvneg, nat2bv}
use Rattle.circuit_spec.specs.Formulas.{Formula, constant}
use Rattle.circuit_spec.specs.Rows.{adder, negations, zeros, add_row, sub_row, neg_row}
use Rattle.circuit_spec.specs.Bytes.{bit_of, number_of_row}
use Rattle.circuit_spec.specs.Meaning.{row_value}
use Rattle.circuit_spec.proofs.EarlierClauses.{Holds}
use Rattle.circuit_spec.proofs.Truths.{constant_value}
use Rattle.circuit_spec.proofs.Numbers.{modulo, number_below, number_falses, number_negations}
use Rattle.circuit_spec.proofs.Words.{word}
use Rattle.circuit_spec.proofs.AdderValues.{adder_number, adder_length}

sums_number : (v : ℕ → Bool) (a b : List Literal) (c : Literal) (f : Formula) → length a ≡ length b → Holds v (adder a b c f).formula
    → number_of_row v (adder a b c f).sums ≡ (number_of_row v a + number_of_row v b + bit_of (literal_value v c)) % 2 ^ length a
sums_number v a b c f same is =
    modulo (length a) (number_of_row v (adder a b c f).sums) (bit_of (literal_value v (adder a b c f).carry)) (number_of_row v a + number_of_row v b + bit_of (literal_value v c))
    (number_below v (adder a b c f).sums (length a) (adder_length a b c f same)) (adder_number v a b c f same is)

pub add_means : (v : ℕ → Bool) (a b : List Literal) (f : Formula) → v 1 ≡ true → length a ≡ length b → Holds v (add_row a b f).1 → row_value v (add_row a b f).0 ≡ bvadd (row_value v a) (row_value v b)
unfolding bvadd
add_means v a b f truth same is =
    word _ _ _ _ (adder_length a b (constant false) f same)
    (sums_number v a b (constant false) f same is
    ∙ ap (λ n. n % 2 ^ length a) (ap (λ c. number_of_row v a + number_of_row v b + bit_of c) (constant_value v truth false) ∙ add-zero (number_of_row v a + number_of_row v b)))

with_carry : (a m b p c : ℕ) → c ≡ 1 → m + b + 1 ≡ p → a + m + c ≡ a + (p - b)
with_carry a m b p c one all = omega arith

pub sub_means : (v : ℕ → Bool) (a b : List Literal) (f : Formula) → v 1 ≡ true → length a ≡ length b → Holds v (sub_row a b f).1 → row_value v (sub_row a b f).0 ≡ bvsub (row_value v a) (row_value v b)
unfolding bvsub
sub_means v a b f truth same is =
    let same_negated : length a ≡ length (negations b) = same ∙ sym (length-map b negation) in
    word _ _ _ _ (adder_length a (negations b) (constant true) f same_negated)
    (sums_number v a (negations b) (constant true) f same_negated is
    ∙ ap (λ n. n % 2 ^ length a) (with_carry (number_of_row v a) (number_of_row v (negations b)) (number_of_row v b) (2 ^ length b) (bit_of (literal_value v (constant true))) (ap bit_of (constant_value v truth true)) (number_negations v b)))

from_zero : (n m w x : ℕ) → n ≡ 0 → w ≡ x → nat2bv w (n + m) ≡ nat2bv x m
from_zero n m w x none widths = rw (none, widths) (ap (λ k. nat2bv x k) (zero-add m))

pub neg_means : (v : ℕ → Bool) (a : List Literal) (f : Formula) → v 1 ≡ true → Holds v (neg_row a f).1 → row_value v (neg_row a f).0 ≡ bvneg (row_value v a)
unfolding bvneg bvsub
neg_means v a f truth is =
    sub_means v (zeros (length a)) a f truth (length-replicate (length a) (constant false)) is
    ∙ from_zero (number_of_row v (zeros (length a))) (2 ^ length a - number_of_row v a) (length (zeros (length a))) (length a) (number_falses v (length a) (constant false) (constant_value v truth false)) (length-replicate (length a) (constant false))
