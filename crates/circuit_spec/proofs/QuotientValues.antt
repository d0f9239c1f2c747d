-- The quotient and the rest of two rows are the standard's.
use Rattle.std.proofs.Common.{◌≡◌, ℕ, zero, suc, ◌+◌, ◌-◌, ◌*◌, ◌/◌, ◌%◌, ◌==◌, ◌^◌, ◌<◌, ◌≤◌, Bool, true, false, if◌then◌else◌, List, [], ◌∷◌, ◌++◌, length, take, refl, ap, sym, ◌∙◌, arith}
use Rattle.std.proofs.Math.Nat.{pow-le-pow_right, pow-succ'}
use Rattle.std.proofs.lemmas.Nat.{div-mul-add, mod-mul-add}
use Rattle.std.proofs.lemmas.Bool.{eqb-true, eqb-false}
use Rattle.std.proofs.lemmas.List.{length-append, length-replicate, length-take-le, length-map}
use Rattle.cnf_form.specs.Literals.{Literal, negation}
use Rattle.cnf_form.specs.Valuations.{literal_value}
use Rattle.circuit_spec.specs.Formulas.{Formula, constant}
use Rattle.circuit_spec.specs.Gates.{mux_gate}
use Rattle.circuit_spec.specs.Rows.{negations, zeros, each, adder, Sum}
use Rattle.circuit_spec.specs.Products.{Division, Restored, brought_down, division_step, division, divided, udiv_row, urem_row}
use Rattle.bv_dag.specs.BitVectors.{bvudiv, bvurem}
use Rattle.circuit_spec.specs.Meaning.{row_value}
use Rattle.circuit_spec.specs.Bytes.{bit_of, number_of_row}
use Rattle.circuit_spec.proofs.Truths.{constant_value}
use Rattle.circuit_spec.proofs.EarlierClauses.{Holds, mux_before, each_before, step_before}
use Rattle.circuit_spec.proofs.Numbers.{bit_small, number_nil, number_cons, number_bound, number_below, number_low, number_falses, falses_above, number_negations}
use Rattle.circuit_spec.proofs.Words.{word}
use Rattle.circuit_spec.proofs.AdderValues.{adder_number, adder_length}
use Rattle.circuit_spec.proofs.PlaceByPlace.{length_each, choice_row_number}

-- what the first bits of a dividend, so many that all their numbers are below `above`, give
record IsDivided (quotient rest dividend divisor above : ℕ) : Type 0 where
  exact : quotient * divisor + rest ≡ dividend
  small : 0 < divisor → rest < divisor
  by_zero : divisor ≡ 0 → quotient + 1 ≡ above

-- the next bit: the divisor is taken from the rest where it can be
one_bit_more : (q r a d p m s x : ℕ) (b : Bool) → IsDivided q r a d p → x ≤ 1 → s < m → s + d + m * bit_of b ≡ (x + 2 * r) + m
    → IsDivided (bit_of b + 2 * q) (if b then s else x + 2 * r) (x + 2 * a) d (2 * p)
one_bit_more q r a d p m s x true is bit within difference = record {
  exact = let e = is.exact in omega arith;
  small = λ some. let below : r < d = is.small some in omega arith;
  by_zero = λ none. let ones : q + 1 ≡ p = is.by_zero none in omega arith;
}
one_bit_more q r a d p m s x false is bit within difference = record {
  exact = let e = is.exact in omega arith;
  small = λ some. omega arith;
  by_zero = λ none. absurd (omega arith);
}

rest_fits : (q r a d p t : ℕ) → IsDivided q r a d p → a < p → p ≤ t → d < t → r < t
rest_fits q r a zero p t is within most below = let e : q * 0 + r ≡ a = is.exact in omega arith
rest_fits q r a (suc d) p t is within most below = let less : r < suc d = is.small (omega arith) in omega arith

quotient_by : (q r a d p : ℕ) (t : Bool) → (d == 0) ≡ t → IsDivided q r a d p → q ≡ (if t then p - 1 else a / d)
quotient_by q r a d p true test is = let ones : q + 1 ≡ p = is.by_zero (eqb-true d 0 test) in omega arith
quotient_by q r a d p false test is =
    let some : 0 < d = omega (arith, eqb-false d 0 test) in
    sym (ap (λ n. n / d) (sym is.exact) ∙ div-mul-add q d r (is.small some))

rest_by : (q r a d p : ℕ) (t : Bool) → (d == 0) ≡ t → IsDivided q r a d p → r ≡ (if t then a else a % d)
rest_by q r a d p true test is = let e = is.exact in let none : d ≡ 0 = eqb-true d 0 test in let nothing : q * d ≡ 0 = rw none (omega arith) in omega arith
rest_by q r a d p false test is =
    let some : 0 < d = omega (arith, eqb-false d 0 test) in
    sym (ap (λ n. n % d) (sym is.exact) ∙ mod-mul-add q d r (is.small some))

-- One step: where the divisor can be taken from the rest and the next bit, there is a carry.
abbrev brought_number : (ℕ → Bool) → Literal → List Literal → ℕ
brought_number v x rest = bit_of (literal_value v x) + 2 * number_of_row v rest

brought_length : (x : Literal) (rest : List Literal) (w : ℕ) → length rest ≡ w + 1 → length (brought_down x rest) ≡ w + 1
brought_length x rest w long = ap suc (length-take-le (length rest - 1) rest (omega arith)) ∙ omega arith

brought_value : (v : ℕ → Bool) (x : Literal) (rest : List Literal) (w : ℕ) → length rest ≡ w + 1 → number_of_row v rest < 2 ^ w → number_of_row v (brought_down x rest) ≡ brought_number v x rest
brought_value v x rest w long small =
    let places : length rest - 1 ≡ w = omega arith in
    number_cons v x (take (length rest - 1) rest)
    ∙ ap (λ n. bit_of (literal_value v x) + 2 * n) (ap (λ k. number_of_row v (take k rest)) places ∙ number_low v w rest small)

difference : (s c t n d m one : ℕ) → s + c ≡ t + n + one → one ≡ 1 → n + d + 1 ≡ m → s + d + c ≡ t + m
difference s c t n d m one sum is negated = omega arith

record IsStep (v : ℕ → Bool) (x : Literal) (rest : List Literal) (divisor modulus : ℕ) (made : Restored) : Type 0 where
  taken : ℕ
  within : taken < modulus
  is_taken : taken + divisor + modulus * bit_of (literal_value v made.bit) ≡ brought_number v x rest + modulus
  left : number_of_row v made.rest ≡ (if literal_value v made.bit then taken else brought_number v x rest)

step_number : (v : ℕ → Bool) (x : Literal) (negated rest : List Literal) (f : Formula) (d w : ℕ) → v 1 ≡ true → length negated ≡ w + 1 → length rest ≡ w + 1
    → number_of_row v negated + d + 1 ≡ 2 ^ (w + 1) → number_of_row v rest < 2 ^ w → Holds v (division_step x negated rest f).formula
    → IsStep v x rest d (2 ^ (w + 1)) (division_step x negated rest f)
unfolding division_step
step_number v x negated rest f d w truth long_divisor long divisor small h =
    let shifted : List Literal = brought_down x rest in
    let s : Sum = adder shifted negated (constant true) f in
    let places : length shifted ≡ w + 1 = brought_length x rest w long in
    let alike : length shifted ≡ length negated = places ∙ sym long_divisor in
    let sums : length s.sums ≡ w + 1 = adder_length shifted negated (constant true) f alike ∙ places in
    let chosen : number_of_row v (each (mux_gate s.carry) s.sums shifted s.formula).0 ≡ (if literal_value v s.carry then number_of_row v s.sums else number_of_row v shifted) =
    choice_row_number v s.carry s.sums shifted s.formula (sums ∙ sym places) h in
    let added : number_of_row v s.sums + 2 ^ length shifted * bit_of (literal_value v s.carry) ≡ number_of_row v shifted + number_of_row v negated + bit_of (literal_value v (constant true)) =
    adder_number v shifted negated (constant true) f alike (each_before v (mux_gate s.carry) (mux_before v s.carry) s.sums shifted s.formula h) in
    let is : number_of_row v shifted ≡ brought_number v x rest = brought_value v x rest w long small in
    let sum : number_of_row v s.sums + 2 ^ (w + 1) * bit_of (literal_value v s.carry) ≡ brought_number v x rest + number_of_row v negated + bit_of (literal_value v (constant true)) =
    ap (λ k. number_of_row v s.sums + 2 ^ k * bit_of (literal_value v s.carry)) (sym places) ∙ added ∙ ap (λ n. n + number_of_row v negated + bit_of (literal_value v (constant true))) is in
    record {
      taken = number_of_row v s.sums;
      within = number_below v s.sums (w + 1) sums;
      is_taken = difference (number_of_row v s.sums) (2 ^ (w + 1) * bit_of (literal_value v s.carry)) (brought_number v x rest) (number_of_row v negated) d (2 ^ (w + 1)) _ sum (ap bit_of (constant_value v truth true)) divisor;
      left = chosen ∙ ap (λ n. if literal_value v s.carry then number_of_row v s.sums else n) is;
    }

step_length : (x : Literal) (negated rest : List Literal) (f : Formula) (w : ℕ) → length negated ≡ w + 1 → length rest ≡ w + 1 → length (division_step x negated rest f).rest ≡ w + 1
unfolding division_step
step_length x negated rest f w long_divisor long =
    let shifted : List Literal = brought_down x rest in
    let s : Sum = adder shifted negated (constant true) f in
    let places : length shifted ≡ w + 1 = brought_length x rest w long in
    let sums : length s.sums ≡ w + 1 = adder_length shifted negated (constant true) f (places ∙ sym long_divisor) ∙ places in
    length_each (mux_gate s.carry) s.sums shifted s.formula (sums ∙ sym places) ∙ sums

rest_length : (a negated : List Literal) (start : Division) (w : ℕ) → length negated ≡ w + 1 → length start.rest ≡ w + 1 → length (division a negated start).rest ≡ w + 1
unfolding division
rest_length [] negated start w long_divisor long = long
rest_length (x ∷ a) negated start w long_divisor long =
    let above : Division = division a negated start in
    step_length x negated above.rest above.formula w long_divisor (rest_length a negated start w long_divisor long)

quotient_length : (a negated : List Literal) (start : Division) → start.quotient ≡ [] → length (division a negated start).quotient ≡ length a
unfolding division
quotient_length [] negated start none = ap length none
quotient_length (x ∷ a) negated start none = ap suc (quotient_length a negated start none)

-- the whole division, over a start that has no quotient and the rest 0
division_number : (v : ℕ → Bool) (a negated : List Literal) (start : Division) (d w : ℕ) → v 1 ≡ true → length negated ≡ w + 1 → length start.rest ≡ w + 1
    → number_of_row v negated + d + 1 ≡ 2 ^ (w + 1) → d < 2 ^ w → length a ≤ w → number_of_row v start.quotient ≡ 0 → number_of_row v start.rest ≡ 0
    → Holds v (division a negated start).formula
    → IsDivided (number_of_row v (division a negated start).quotient) (number_of_row v (division a negated start).rest) (number_of_row v a) d (2 ^ length a)
unfolding division
division_number v [] negated start d w truth long_divisor long divisor below few no_quotient no_rest h =
    rw (number_nil v, no_quotient, no_rest) (record { exact = omega arith; small = λ some. some; by_zero = λ none. refl })
division_number v (x ∷ a) negated start d w truth long_divisor long divisor below few no_quotient no_rest h =
    let above : Division = division a negated start in
    let made : Restored = division_step x negated above.rest above.formula in
    let places : length above.rest ≡ w + 1 = rest_length a negated start w long_divisor long in
    let so_far : IsDivided (number_of_row v above.quotient) (number_of_row v above.rest) (number_of_row v a) d (2 ^ length a) =
    division_number v a negated start d w truth long_divisor long divisor below (omega arith) no_quotient no_rest
    (step_before v x negated above.rest above.formula h) in
    let most : 2 ^ length a ≤ 2 ^ w = pow-le-pow_right (omega arith) (omega arith) in
    let small : number_of_row v above.rest < 2 ^ w = rest_fits _ _ _ _ _ _ so_far (number_bound v a) most below in
    let step : IsStep v x above.rest d (2 ^ (w + 1)) made = step_number v x negated above.rest above.formula d w truth long_divisor places divisor small h in
    rw (number_cons v made.bit above.quotient, number_cons v x a, pow-succ' 2 (length a), step.left)
    (one_bit_more _ _ _ _ _ (2 ^ (w + 1)) step.taken _ (literal_value v made.bit) so_far (bit_small (literal_value v x)) step.within step.is_taken)

abbrev zero_above : List Literal → List Literal
zero_above b = b ++ constant false ∷ []

zero_above_length : (b : List Literal) → length (zero_above b) ≡ length b + 1
zero_above_length b = length-append b (constant false ∷ [])

zero_above_number : (v : ℕ → Bool) (b : List Literal) → v 1 ≡ true → number_of_row v (zero_above b) ≡ number_of_row v b
zero_above_number v b truth = falses_above v b 1 (constant false) (constant_value v truth false)

divided_number : (v : ℕ → Bool) (a b : List Literal) (f : Formula) → v 1 ≡ true → length a ≡ length b → Holds v (divided a b f).formula
    → IsDivided (number_of_row v (divided a b f).quotient) (number_of_row v (divided a b f).rest) (number_of_row v a) (number_of_row v b) (2 ^ length a)
divided_number v a b f truth same h =
    let start : Division = record { quotient = []; rest = zero_above (zeros (length b)); formula = f } in
    let negated : List Literal = negations (zero_above b) in
    let long_divisor : length negated ≡ length b + 1 = length-map (zero_above b) negation ∙ zero_above_length b in
    let long : length start.rest ≡ length b + 1 = zero_above_length (zeros (length b)) ∙ ap (λ n. n + 1) (length-replicate (length b) (constant false)) in
    let divisor : number_of_row v negated + number_of_row v b + 1 ≡ 2 ^ (length b + 1) =
    ap (λ n. number_of_row v negated + n + 1) (sym (zero_above_number v b truth)) ∙ number_negations v (zero_above b) ∙ ap (λ n. 2 ^ n) (zero_above_length b) in
    let no_rest : number_of_row v start.rest ≡ 0 = zero_above_number v (zeros (length b)) truth ∙ number_falses v (length b) (constant false) (constant_value v truth false) in
    division_number v a negated start (number_of_row v b) (length b) truth long_divisor long divisor (number_bound v b) (omega arith) (number_nil v) no_rest h

udiv_length : (a b : List Literal) (f : Formula) → length (udiv_row a b f).0 ≡ length a
udiv_length a b f = quotient_length a (negations (zero_above b)) (record { quotient = []; rest = zero_above (zeros (length b)); formula = f }) refl

divided_length : (a b : List Literal) (f : Formula) → length (divided a b f).rest ≡ length b + 1
divided_length a b f =
    rest_length a (negations (zero_above b)) (record { quotient = []; rest = zero_above (zeros (length b)); formula = f }) (length b)
    (length-map (zero_above b) negation ∙ zero_above_length b)
    (zero_above_length (zeros (length b)) ∙ ap (λ n. n + 1) (length-replicate (length b) (constant false)))

urem_number : (v : ℕ → Bool) (a b : List Literal) (f : Formula) → v 1 ≡ true → length a ≡ length b → Holds v (urem_row a b f).1
    → number_of_row v (urem_row a b f).0 ≡ (if number_of_row v b == 0 then number_of_row v a else number_of_row v a % number_of_row v b)
urem_number v a b f truth same h =
    let made : IsDivided (number_of_row v (divided a b f).quotient) (number_of_row v (divided a b f).rest) (number_of_row v a) (number_of_row v b) (2 ^ length a) = divided_number v a b f truth same h in
    let small : number_of_row v (divided a b f).rest < 2 ^ length a = rest_fits _ _ _ _ _ _ made (number_bound v a) (omega arith) (number_below v b (length a) (sym same)) in
    number_low v (length a) (divided a b f).rest small ∙ rest_by _ _ _ _ _ (number_of_row v b == 0) refl made

urem_length : (a b : List Literal) (f : Formula) → length a ≡ length b → length (urem_row a b f).0 ≡ length a
urem_length a b f same = length-take-le (length a) (divided a b f).rest (omega (arith, divided_length a b f))

pub udiv_means : (v : ℕ → Bool) (a b : List Literal) (f : Formula) → v 1 ≡ true → length a ≡ length b → Holds v (udiv_row a b f).1 → row_value v (udiv_row a b f).0 ≡ bvudiv (row_value v a) (row_value v b)
unfolding bvudiv
udiv_means v a b f truth same h = word _ _ _ _ (udiv_length a b f) (quotient_by _ _ _ _ _ (number_of_row v b == 0) refl (divided_number v a b f truth same h))

pub urem_means : (v : ℕ → Bool) (a b : List Literal) (f : Formula) → v 1 ≡ true → length a ≡ length b → Holds v (urem_row a b f).1 → row_value v (urem_row a b f).0 ≡ bvurem (row_value v a) (row_value v b)
unfolding bvurem
urem_means v a b f truth same h = word _ _ _ _ (urem_length a b f same) (urem_number v a b f truth same h)
