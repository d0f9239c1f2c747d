-- The tests of two rows are true just where they hold of the rows' numbers, so they are the standard's.
use Rattle.std.proofs.Common.{◌≡◌, ℕ, ◌+◌, ◌-◌, ◌*◌, ◌^◌, ◌==◌, ◌<◌, ◌≤◌, nat_lt, nat_le, Bool, true, false, not, ◌&&◌, ◌||◌, if◌then◌else◌, List, [], ◌∷◌, length, take, refl, ap, sym, subst, ◌∙◌, arith}
use Rattle.std.proofs.lemmas.Bool.{eq-eqb, ne_eqb, eqb-true, eqb-false, ltb-true, ltb-false, lt-ltb, le-ltb}
use Rattle.std.proofs.lemmas.List.{length-map, length-set}
use Rattle.cnf_form.specs.Literals.{Literal, negation}
use Rattle.cnf_form.specs.Valuations.{literal_value}
use Rattle.bv_dag.specs.BitVectors.{bvult, bvslt, equal}
use Rattle.circuit_spec.specs.Bytes.{bit_of, number_of_row}
use Rattle.circuit_spec.specs.Formulas.{Formula, constant}
use Rattle.circuit_spec.specs.Gates.{and_gate, xor_gate}
use Rattle.circuit_spec.specs.Rows.{adder, negations, top_of, with_top_negated, ult_gate, slt_gate, equal_from, equal_gate}
use Rattle.circuit_spec.specs.Meaning.{is_xor, row_value}
use Rattle.circuit_spec.proofs.Truths.{and_true, and_assoc, value_not, constant_value}
use Rattle.circuit_spec.proofs.EarlierClauses.{Holds, and_before, equal_before}
use Rattle.circuit_spec.proofs.GateValues.{and_says, xor_says}
use Rattle.circuit_spec.proofs.Numbers.{number_nil, number_cons, number_below, number_negations}
use Rattle.circuit_spec.proofs.Words.{one_row}
use Rattle.circuit_spec.proofs.AdderValues.{adder_number, adder_length}
use Rattle.circuit_spec.proofs.TopValues.{Topped, topped}

-- one number below another: their difference has no carry
by_carry : (k : Bool) (r a b m p c : ℕ) → c ≡ 1 → r + p * bit_of k ≡ a + m + c → m + b + 1 ≡ p → r < p → not k ≡ nat_lt a b
by_carry true r a b m p c one all whole small = sym (le-ltb a b (omega arith))
by_carry false r a b m p c one all whole small = sym (lt-ltb a b (omega arith))

pub ult_means : (v : ℕ → Bool) (a b : List Literal) (f : Formula) → v 1 ≡ true → length a ≡ length b → Holds v (ult_gate a b f).1 → literal_value v (ult_gate a b f).0 ≡ nat_lt (number_of_row v a) (number_of_row v b)
ult_means v a b f truth same is =
    let same_negated : length a ≡ length (negations b) = same ∙ sym (length-map b negation) in
    let whole : number_of_row v (negations b) + number_of_row v b + 1 ≡ 2 ^ length a = number_negations v b ∙ ap (λ n. 2 ^ n) (sym same) in
    value_not v (adder a (negations b) (constant true) f).carry
    ∙ by_carry (literal_value v (adder a (negations b) (constant true) f).carry) (number_of_row v (adder a (negations b) (constant true) f).sums) (number_of_row v a) (number_of_row v b) (number_of_row v (negations b)) (2 ^ length a) (bit_of (literal_value v (constant true)))
    (ap bit_of (constant_value v truth true)) (adder_number v a (negations b) (constant true) f same_negated is) whole (number_below v (adder a (negations b) (constant true) f).sums (length a) (adder_length a (negations b) (constant true) f same_negated))

-- equality
twice_same : (x m n : ℕ) → x + 2 * m ≡ x + 2 * n → m ≡ n
twice_same x m n e = omega arith

by_sides : (x m n : ℕ) (t : Bool) → (m == n) ≡ t → (x + 2 * m == x + 2 * n) ≡ t
by_sides x m n true is = eq-eqb (x + 2 * m) (x + 2 * n) (ap (λ k. x + 2 * k) (eqb-true m n is))
by_sides x m n false is = ne_eqb (x + 2 * m) (x + 2 * n) (λ e. eqb-false m n is (twice_same x m n e))

same_halves : (x m n : ℕ) → (x + 2 * m == x + 2 * n) ≡ (m == n)
same_halves x m n = by_sides x m n (m == n) refl

two_same : (x y : Bool) (m n : ℕ) → (bit_of x + 2 * m == bit_of y + 2 * n) ≡ (not (is_xor x y) && (m == n))
two_same true true m n = same_halves 1 m n
two_same true false m n = ne_eqb (1 + 2 * m) (0 + 2 * n) (λ e. absurd (omega (arith, e)))
two_same false true m n = ne_eqb (0 + 2 * m) (1 + 2 * n) (λ e. absurd (omega (arith, e)))
two_same false false m n = same_halves 0 m n

equal_from_says : (v : ℕ → Bool) (e : Literal) (a b : List Literal) (f : Formula) → length a ≡ length b → Holds v (equal_from e a b f).1
    → literal_value v (equal_from e a b f).0 ≡ (literal_value v e && (number_of_row v a == number_of_row v b))
unfolding equal_from
equal_from_says v e [] [] f same h = rw (number_nil v) (sym (and_true (literal_value v e)))
equal_from_says v e [] (y ∷ b) f same h = absurd (omega arith)
equal_from_says v e (x ∷ a) [] f same h = absurd (omega arith)
equal_from_says v e (x ∷ a) (y ∷ b) f same h =
    let d : Literal × Formula = xor_gate x y f in
    let o : Literal × Formula = and_gate e (negation d.0) d.1 in
    let after : Holds v o.1 = equal_before v o.0 a b o.1 h in
    let not_apart : literal_value v (negation d.0) ≡ not (is_xor (literal_value v x) (literal_value v y)) = value_not v d.0 ∙ ap not (xor_says v x y f (and_before v e (negation d.0) d.1 after)) in
    equal_from_says v o.0 a b o.1 (omega arith) h
    ∙ ap (λ t. t && (number_of_row v a == number_of_row v b)) (and_says v e (negation d.0) d.1 after ∙ ap (λ t. literal_value v e && t) not_apart)
    ∙ and_assoc (literal_value v e) (not (is_xor (literal_value v x) (literal_value v y))) (number_of_row v a == number_of_row v b)
    ∙ ap (λ t. literal_value v e && t) (sym (two_same (literal_value v x) (literal_value v y) (number_of_row v a) (number_of_row v b)))
    ∙ ap (λ m. literal_value v e && (m == bit_of (literal_value v y) + 2 * number_of_row v b)) (sym (number_cons v x a))
    ∙ ap (λ m. literal_value v e && (number_of_row v (x ∷ a) == m)) (sym (number_cons v y b))

equal_says : (v : ℕ → Bool) → v 1 ≡ true → (a b : List Literal) (f : Formula) → length a ≡ length b → Holds v (equal_gate a b f).1 → literal_value v (equal_gate a b f).0 ≡ (number_of_row v a == number_of_row v b)
equal_says v truth a b f same h =
    equal_from_says v (constant true) a b f same h ∙ ap (λ t. t && (number_of_row v a == number_of_row v b)) (constant_value v truth true)

-- the order of numbers with their top bits negated
shift_order : (m n p : ℕ) (t : Bool) → nat_lt m n ≡ t → nat_lt (m + p * 1) (n + p * 1) ≡ t
shift_order m n p true is =
    let less : m < n = ltb-true m n is in
    lt-ltb (m + p * 1) (n + p * 1) (omega arith)
shift_order m n p false is =
    let more : n ≤ m = ltb-false m n is in
    le-ltb (m + p * 1) (n + p * 1) (omega arith)

plain_order : (m n p : ℕ) → nat_lt (m + p * 0) (n + p * 0) ≡ nat_lt m n
plain_order m n p = ap (λ k. nat_lt k (n + p * 0)) (none m p) ∙ ap (nat_lt m) (none n p)
  where
    none : (m p : ℕ) → m + p * 0 ≡ m
    none m p = omega arith

signed_order : (m n p : ℕ) (a b : Bool) → m < p → n < p
    → nat_lt (m + p * bit_of (not a)) (n + p * bit_of (not b)) ≡ (if a then not b || nat_lt (m + p * bit_of a) (n + p * bit_of b) else not b && nat_lt (m + p * bit_of a) (n + p * bit_of b))
signed_order m n p true true small low = plain_order m n p ∙ sym (shift_order m n p (nat_lt m n) refl)
signed_order m n p true false small low = lt-ltb (m + p * 0) (n + p * 1) (omega arith)
signed_order m n p false true small low = le-ltb (m + p * 1) (n + p * 0) (omega arith)
signed_order m n p false false small low = shift_order m n p (nat_lt m n) refl ∙ sym (plain_order m n p)

slt_number : (v : ℕ → Bool) (a b : List Literal) (p q low_a low_b : ℕ) → q ≡ p → Topped v a p low_a → Topped v b q low_b
    → nat_lt (number_of_row v (with_top_negated a)) (number_of_row v (with_top_negated b))
    ≡ (if nat_le p (number_of_row v a) then not (nat_le q (number_of_row v b)) || nat_lt (number_of_row v a) (number_of_row v b) else not (nat_le q (number_of_row v b)) && nat_lt (number_of_row v a) (number_of_row v b))
slt_number v a b p q low_a low_b same x y =
    let z : Topped v b p low_b = subst (λ (n : ℕ). Topped v b n low_b) same y in
    rw (x.negated, z.negated, x.sign, y.sign, x.number, z.number) (signed_order low_a low_b p (literal_value v (top_of a)) (literal_value v (top_of b)) x.small z.small)

-- so these tests are the standard's
pub ult_row_means : (v : ℕ → Bool) (a b : List Literal) (f : Formula) → v 1 ≡ true → length a ≡ length b → Holds v (ult_gate a b f).1 → row_value v ((ult_gate a b f).0 ∷ []) ≡ bvult (row_value v a) (row_value v b)
unfolding bvult
ult_row_means v a b f truth same h = one_row v (ult_gate a b f).0 _ (ult_means v a b f truth same h)

pub equal_row_means : (v : ℕ → Bool) (a b : List Literal) (f : Formula) → v 1 ≡ true → length a ≡ length b → Holds v (equal_gate a b f).1 → row_value v ((equal_gate a b f).0 ∷ []) ≡ equal (row_value v a) (row_value v b)
unfolding equal
equal_row_means v a b f truth same h = one_row v (equal_gate a b f).0 _ (equal_says v truth a b f same h)

pub slt_row_means : (v : ℕ → Bool) (a b : List Literal) (f : Formula) → v 1 ≡ true → 0 < length a → length a ≡ length b → Holds v (slt_gate a b f).1 → row_value v ((slt_gate a b f).0 ∷ []) ≡ bvslt (row_value v a) (row_value v b)
unfolding bvslt
slt_row_means v a b f truth some same h =
    let x : Topped v a (2 ^ (length a - 1)) (number_of_row v (take (length a - 1) a)) = topped v a some in
    let y : Topped v b (2 ^ (length b - 1)) (number_of_row v (take (length b - 1) b)) = topped v b (omega arith) in
    let alike : length (with_top_negated a) ≡ length (with_top_negated b) = length-set a (length a - 1) (negation (top_of a)) ∙ same ∙ sym (length-set b (length b - 1) (negation (top_of b))) in
    one_row v (slt_gate a b f).0 _
    (ult_means v (with_top_negated a) (with_top_negated b) f truth alike h
    ∙ slt_number v a b (2 ^ (length a - 1)) (2 ^ (length b - 1)) _ _ (ap (λ n. 2 ^ (n - 1)) (sym same)) x y)
