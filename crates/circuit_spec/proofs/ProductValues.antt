-- The product of two rows is the standard's.
use Rattle.std.proofs.Common.{◌≡◌, ℕ, ◌+◌, ◌-◌, ◌*◌, ◌^◌, ◌%◌, ◌<◌, ◌≤◌, Bool, true, false, if◌then◌else◌, add-one, List, [], ◌∷◌, length, take, drop, replicate, ap, sym, ◌∙◌, arith, add-sub_of_le}
use Rattle.std.proofs.Math.Nat.{pow-succ'}
use Rattle.std.proofs.lemmas.Nat.{pow-add}
use Rattle.std.proofs.lemmas.List.{length-append, length-replicate, length-take-le}
use Rattle.cnf_form.specs.Literals.{Literal}
use Rattle.cnf_form.specs.Valuations.{literal_value}
use Rattle.circuit_spec.specs.Formulas.{Formula, constant}
use Rattle.circuit_spec.specs.Gates.{and_gate}
use Rattle.circuit_spec.specs.Rows.{zeros, each, adder, Sum}
use Rattle.circuit_spec.specs.Products.{partial_row, products, mul_row}
use Rattle.bv_dag.specs.BitVectors.{bvmul}
use Rattle.circuit_spec.specs.Meaning.{row_value}
use Rattle.circuit_spec.specs.Bytes.{bit_of, number_of_row}
use Rattle.circuit_spec.proofs.Truths.{constant_value}
use Rattle.circuit_spec.proofs.EarlierClauses.{Holds, adder_before, products_before}
use Rattle.circuit_spec.proofs.Numbers.{modulo, number_nil, number_cons, number_below, number_append, number_split, number_falses}
use Rattle.circuit_spec.proofs.Words.{word}
use Rattle.circuit_spec.proofs.AdderValues.{adder_number, adder_length}
use Rattle.circuit_spec.proofs.PlaceByPlace.{length_each, masked_row_number}

one_bit_added : (W P Q A t d T S R p k c N : ℕ) (b : Bool) → A ≡ t + Q * d → W ≡ P * Q → p ≡ P * (if b then t else 0) → S + W * c ≡ T + p → R + W * k ≡ S + (2 * P) * A * N
    → (n : ℕ) × (R + W * n ≡ T + P * A * (bit_of b + 2 * N))
one_bit_added W P Q A t d T S R p k c N true split power partial sum rest =
    let whole : P * A ≡ P * t + W * d = rw (split, power) (omega arith) in
    (k + c + d, omega arith)
one_bit_added W P Q A t d T S R p k c N false split power partial sum rest = (k + c, omega arith)

partial_length : (a : List Literal) (low : ℕ) (b : Literal) (f : Formula) → low ≤ length a → length (partial_row a low b f).0 ≡ length a
unfolding partial_row
partial_length a low b f within =
    let n = length a - low in
    let m : List Literal = (each and_gate (take n a) (replicate n b) f).0 in
    let left : length (take n a) ≡ n = length-take-le n a (omega arith) in
    let made : length m ≡ n = length_each and_gate (take n a) (replicate n b) f (left ∙ sym (length-replicate n b)) ∙ left in
    length-append (zeros low) m ∙ ap (λ k. k + length m) (length-replicate low (constant false)) ∙ ap (λ k. low + k) made ∙ omega arith

-- what one bit of b adds
partial_number : (v : ℕ → Bool) (a : List Literal) (low : ℕ) (b : Literal) (f : Formula) → v 1 ≡ true → low ≤ length a → Holds v (partial_row a low b f).1
    → number_of_row v (partial_row a low b f).0 ≡ 2 ^ low * (if literal_value v b then number_of_row v (take (length a - low) a) else 0)
unfolding partial_row
partial_number v a low b f truth within h =
    let n = length a - low in
    let made : number_of_row v (each and_gate (take n a) (replicate n b) f).0 ≡ (if literal_value v b then number_of_row v (take n a) else 0) = masked_row_number v b (take n a) n f (length-take-le n a (omega arith)) h in
    let none : number_of_row v (zeros low) ≡ 0 = number_falses v low (constant false) (constant_value v truth false) in
    let up : length (zeros low) ≡ low = length-replicate low (constant false) in
    number_append v (zeros low) (each and_gate (take n a) (replicate n b) f).0 ∙ rw (none, up, made) (omega arith)

-- the product so far, and what the further bits of b add to it, but for a multiple of 2 ^ length a
products_number : (v : ℕ → Bool) (a bs total : List Literal) (low : ℕ) (f : Formula) → v 1 ≡ true → low + length bs ≤ length a → length total ≡ length a → Holds v (products a bs low total f).1
    → (n : ℕ) × (number_of_row v (products a bs low total f).0 + 2 ^ length a * n ≡ number_of_row v total + 2 ^ low * number_of_row v a * number_of_row v bs)
unfolding products
products_number v a [] total low f truth within same h = (0, rw (number_nil v) (omega arith))
products_number v a (b ∷ bs) total low f truth within same h =
    let p : List Literal × Formula = partial_row a low b f in
    let s : Sum = adder total p.0 (constant false) p.1 in
    let n = length a - low in
    let alike : length total ≡ length p.0 = same ∙ sym (partial_length a low b f (omega arith)) in
    let long : length s.sums ≡ length a = adder_length total p.0 (constant false) p.1 alike ∙ same in
    let after : Holds v s.formula = products_before v a bs (low + 1) s.sums s.formula h in
    let rest : (k : ℕ) × (number_of_row v (products a bs (low + 1) s.sums s.formula).0 + 2 ^ length a * k ≡ number_of_row v s.sums + 2 ^ (low + 1) * number_of_row v a * number_of_row v bs) =
    products_number v a bs s.sums (low + 1) s.formula truth (omega arith) long h in
    let added : number_of_row v s.sums + 2 ^ length total * bit_of (literal_value v s.carry) ≡ number_of_row v total + number_of_row v p.0 + bit_of (literal_value v (constant false)) = adder_number v total p.0 (constant false) p.1 alike after in
    let sum : number_of_row v s.sums + 2 ^ length a * bit_of (literal_value v s.carry) ≡ number_of_row v total + number_of_row v p.0 =
    rw (← same) (added ∙ rw (constant_value v truth false) (omega arith)) in
    let one : number_of_row v p.0 ≡ 2 ^ low * (if literal_value v b then number_of_row v (take n a) else 0) = partial_number v a low b f truth (omega arith) (adder_before v total p.0 (constant false) p.1 after) in
    let within_a : low ≤ length a = omega arith in
    let power : 2 ^ length a ≡ 2 ^ low * 2 ^ n = ap (λ k. 2 ^ k) (sym (add-sub_of_le within_a)) ∙ pow-add 2 low n in
    let step : 2 ^ (low + 1) ≡ 2 * 2 ^ low = ap (λ k. 2 ^ k) (add-one low) ∙ pow-succ' 2 low in
    rw (number_cons v b bs) (one_bit_added _ _ (2 ^ n) (number_of_row v a) (number_of_row v (take n a)) (number_of_row v (drop n a)) _ (number_of_row v s.sums) _ (number_of_row v p.0) rest.0 (bit_of (literal_value v s.carry)) (number_of_row v bs) (literal_value v b)
    (number_split v n a) power one sum (rw (← step) rest.1))

products_length : (a bs total : List Literal) (low : ℕ) (f : Formula) → low + length bs ≤ length a → length total ≡ length a → length (products a bs low total f).0 ≡ length a
unfolding products
products_length a [] total low f within same = same
products_length a (b ∷ bs) total low f within same =
    let p : List Literal × Formula = partial_row a low b f in
    let s : Sum = adder total p.0 (constant false) p.1 in
    let alike : length total ≡ length p.0 = same ∙ sym (partial_length a low b f (omega arith)) in
    products_length a bs s.sums (low + 1) s.formula (omega arith) (adder_length total p.0 (constant false) p.1 alike ∙ same)

mul_length : (a b : List Literal) (f : Formula) → length a ≡ length b → length (mul_row a b f).0 ≡ length a
mul_length a b f same = products_length a b (zeros (length a)) 0 f (omega arith) (length-replicate (length a) (constant false))

mul_number : (v : ℕ → Bool) (a b : List Literal) (f : Formula) → v 1 ≡ true → length a ≡ length b → Holds v (mul_row a b f).1 → number_of_row v (mul_row a b f).0 ≡ (number_of_row v a * number_of_row v b) % 2 ^ length a
mul_number v a b f truth same h =
    let made : (n : ℕ) × (number_of_row v (mul_row a b f).0 + 2 ^ length a * n ≡ number_of_row v (zeros (length a)) + 2 ^ 0 * number_of_row v a * number_of_row v b) =
    products_number v a b (zeros (length a)) 0 f truth (omega arith) (length-replicate (length a) (constant false)) h in
    let none : number_of_row v (zeros (length a)) ≡ 0 = number_falses v (length a) (constant false) (constant_value v truth false) in
    let small : number_of_row v (mul_row a b f).0 < 2 ^ length a = number_below v (mul_row a b f).0 (length a) (mul_length a b f same) in
    modulo (length a) (number_of_row v (mul_row a b f).0) made.0 (number_of_row v a * number_of_row v b) small (made.1 ∙ rw none (omega arith))

pub mul_means : (v : ℕ → Bool) (a b : List Literal) (f : Formula) → v 1 ≡ true → length a ≡ length b → Holds v (mul_row a b f).1 → row_value v (mul_row a b f).0 ≡ bvmul (row_value v a) (row_value v b)
unfolding bvmul
mul_means v a b f truth same h = word _ _ _ _ (mul_length a b f same) (mul_number v a b f truth same h)
