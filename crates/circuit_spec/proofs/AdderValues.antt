-- What the adder makes of the numbers of two rows: the number of its sums, and above it the carry.
use Rattle.std.proofs.Common.{◌≡◌, ℕ, suc, ◌+◌, ◌*◌, ◌^◌, Bool, true, false, List, [], ◌∷◌, length, refl, ap, arith}
use Rattle.cnf_form.specs.Literals.{Literal}
use Rattle.cnf_form.specs.Valuations.{literal_value}
use Rattle.circuit_spec.specs.Formulas.{Formula}
use Rattle.circuit_spec.specs.Gates.{xor3_gate, majority_gate}
use Rattle.circuit_spec.specs.Rows.{adder}
use Rattle.circuit_spec.specs.Bytes.{bit_of, number_of_row}
use Rattle.circuit_spec.specs.Meaning.{sum_bit, carry_bit}
use Rattle.circuit_spec.proofs.EarlierClauses.{Holds, majority_before, adder_before}
use Rattle.circuit_spec.proofs.GateValues.{xor3_says, majority_says}
use Rattle.circuit_spec.proofs.Numbers.{power_times}

full_adder : (a b c : Bool) → bit_of (sum_bit a b c) + 2 * bit_of (carry_bit a b c) ≡ bit_of a + bit_of b + bit_of c
full_adder true true true = refl
full_adder true true false = refl
full_adder true false true = refl
full_adder true false false = refl
full_adder false true true = refl
full_adder false true false = refl
full_adder false false true = refl
full_adder false false false = refl

place : (n r k s m x y na nb c : ℕ) → r + 2 ^ n * k ≡ na + nb + m → s + 2 * m ≡ x + y + c → (s + 2 * r) + 2 ^ suc n * k ≡ (x + 2 * na) + (y + 2 * nb) + c
place n r k s m x y na nb c rest here = rw (power_times n k) (omega arith)

nothing : (k : ℕ) → 0 + 2 ^ 0 * k ≡ 0 + 0 + k
nothing k = omega arith

pub adder_number : (v : ℕ → Bool) (a b : List Literal) (c : Literal) (f : Formula) → length a ≡ length b → Holds v (adder a b c f).formula
    → number_of_row v (adder a b c f).sums + 2 ^ length a * bit_of (literal_value v (adder a b c f).carry) ≡ number_of_row v a + number_of_row v b + bit_of (literal_value v c)
unfolding adder number_of_row
adder_number v [] [] c f same h = nothing (bit_of (literal_value v c))
adder_number v [] (y ∷ b) c f same h = absurd (omega arith)
adder_number v (x ∷ a) [] c f same h = absurd (omega arith)
adder_number v (x ∷ a) (y ∷ b) c f same h =
    let s : Literal × Formula = xor3_gate x y c f in
    let m : Literal × Formula = majority_gate x y c s.1 in
    let after : Holds v m.1 = adder_before v a b m.0 m.1 h in
    let carried : literal_value v m.0 ≡ carry_bit (literal_value v x) (literal_value v y) (literal_value v c) = majority_says v x y c s.1 after in
    let summed : literal_value v s.0 ≡ sum_bit (literal_value v x) (literal_value v y) (literal_value v c) = xor3_says v x y c f (majority_before v x y c s.1 after) in
    let here : bit_of (literal_value v s.0) + 2 * bit_of (literal_value v m.0) ≡ bit_of (literal_value v x) + bit_of (literal_value v y) + bit_of (literal_value v c)
    = rw (summed, carried) (full_adder (literal_value v x) (literal_value v y) (literal_value v c)) in
    place (length a) _ _ _ _ _ _ (number_of_row v a) (number_of_row v b) _ (adder_number v a b m.0 m.1 (omega arith) h) here

pub adder_length : (a b : List Literal) (c : Literal) (f : Formula) → length a ≡ length b → length (adder a b c f).sums ≡ length a
unfolding adder
adder_length [] b c f same = refl
adder_length (x ∷ a) [] c f same = absurd (omega arith)
adder_length (x ∷ a) (y ∷ b) c f same =
    let s : Literal × Formula = xor3_gate x y c f in
    let m : Literal × Formula = majority_gate x y c s.1 in
    ap suc (adder_length a b m.0 m.1 (omega arith))
