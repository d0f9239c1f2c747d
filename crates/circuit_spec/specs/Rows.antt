-- Rows of literals, adders, and tests of two rows.
use Rattle.std.specs.Prelude.{ℕ, ◌-◌, ◌/◌, ◌%◌, ◌==◌, zero, suc, true, false, List, [], ◌∷◌, map, replicate, length, slice_index_or, slice_set}
use Rattle.cnf_form.specs.Literals.{Literal, negation}
use Rattle.circuit_spec.specs.Formulas.{Formula, constant, next_variable, with_variable}
use Rattle.circuit_spec.specs.Gates.{and_gate, xor_gate, xor3_gate, majority_gate}

-- A row is the literals of a number's bits, the lowest first.

abbrev pub negations : List Literal → List Literal
negations a = map negation a

-- the bits of a number, so many
unfoldable pub number_row : ℕ → ℕ → List Literal
number_row zero n = []
number_row (suc w) n = constant (n % 2 == 1) ∷ number_row w (n / 2)

abbrev pub zeros : ℕ → List Literal
zeros w = replicate w (constant false)

-- the last literal, and false where there is none
abbrev pub top_of : List Literal → Literal
top_of a = slice_index_or a (length a - 1) (constant false)

abbrev pub with_top_negated : List Literal → List Literal
with_top_negated a = slice_set a (length a - 1) (negation (top_of a))

abbrev pub with_first : Literal → List Literal × Formula → List Literal × Formula
with_first o rest = (o ∷ rest.0, rest.1)

-- so many new variables
unfoldable pub fresh_row : ℕ → Formula → List Literal × Formula
fresh_row zero f = ([], f)
fresh_row (suc w) f = with_first (next_variable f) (fresh_row w (with_variable f))

-- one gate for each place of two rows, from the low end
unfoldable pub each : (Literal → Literal → Formula → Literal × Formula) → List Literal
    → List Literal → Formula → List Literal × Formula
each g [] bs f = ([], f)
each g (a ∷ as') [] f = ([], f)
each g (a ∷ as') (b ∷ bs) f =
    let o = g a b f in
    with_first o.0 (each g as' bs o.1)

-- the sums of an adder, its last carry, and the formula
pub record Sum : Type 0 where
  pub sums : List Literal
  pub carry : Literal
  pub formula : Formula

abbrev pub with_sum : Literal → Sum → Sum
with_sum s r = record { sums = s ∷ r.sums; carry = r.carry; formula = r.formula }

-- The ripple-carry adder: at each place a full adder, whose sum is made before its carry.
unfoldable pub adder : List Literal → List Literal → Literal → Formula → Sum
adder [] bs c f = record { sums = []; carry = c; formula = f }
adder (a ∷ as') [] c f = record { sums = []; carry = c; formula = f }
adder (a ∷ as') (b ∷ bs) c f =
    let s = xor3_gate a b c f in
    let m = majority_gate a b c s.1 in
    with_sum s.0 (adder as' bs m.0 m.1)

abbrev pub sum_row : Sum → List Literal × Formula
sum_row s = (s.sums, s.formula)

-- a + b
abbrev pub add_row : List Literal → List Literal → Formula → List Literal × Formula
add_row a b f = sum_row (adder a b (constant false) f)

-- a - b: a, the bits of b negated, and 1
abbrev pub sub_row : List Literal → List Literal → Formula → List Literal × Formula
sub_row a b f = sum_row (adder a (negations b) (constant true) f)

abbrev pub neg_row : List Literal → Formula → List Literal × Formula
neg_row a f = sub_row (zeros (length a)) a f

-- a < b: a - b has no carry
abbrev pub below : Sum → Literal × Formula
below s = (negation s.carry, s.formula)

abbrev pub ult_gate : List Literal → List Literal → Formula → Literal × Formula
ult_gate a b f = below (adder a (negations b) (constant true) f)

-- with sign: the order of the numbers whose top bits are negated
abbrev pub slt_gate : List Literal → List Literal → Formula → Literal × Formula
slt_gate a b f = ult_gate (with_top_negated a) (with_top_negated b) f

-- whether e is true and no place differs, from the low end
unfoldable pub equal_from : Literal → List Literal → List Literal → Formula → Literal × Formula
equal_from e [] bs f = (e, f)
equal_from e (a ∷ as') [] f = (e, f)
equal_from e (a ∷ as') (b ∷ bs) f =
    let x = xor_gate a b f in
    let o = and_gate e (negation x.0) x.1 in
    equal_from o.0 as' bs o.1

abbrev pub equal_gate : List Literal → List Literal → Formula → Literal × Formula
equal_gate a b f = equal_from (constant true) a b f
