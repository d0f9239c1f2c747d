-- Multiplication by shift and add, and restoring division.
use Rattle.std.specs.Prelude.{ℕ, ◌+◌, ◌-◌, true, false, List, [], ◌∷◌, ◌++◌, take, replicate, length}
use Rattle.cnf_form.specs.Literals.{Literal}
use Rattle.circuit_spec.specs.Formulas.{Formula, constant}
use Rattle.circuit_spec.specs.Gates.{and_gate, mux_gate}
use Rattle.circuit_spec.specs.Rows.{negations, zeros, each, adder, add_row, Sum}

abbrev pub above_zeros : ℕ → List Literal × Formula → List Literal × Formula
above_zeros low made = (zeros low ++ made.0, made.1)

-- what the bit b at place `low` of one factor adds to the product: the other factor above so many zeros, where b is 1
unfoldable pub partial_row : List Literal → ℕ → Literal → Formula → List Literal × Formula
partial_row a low b f =
    above_zeros low (each and_gate (take (length a - low) a) (replicate (length a - low) b) f)

-- Multiplication by shift and add: the product so far, and what each further bit of b adds to it.
unfoldable pub products : List Literal → List Literal → (low : ℕ) → List Literal → Formula
    → List Literal × Formula
products a [] low total f = (total, f)
products a (b ∷ bs) low total f =
    let partial = partial_row a low b f in
    let sum = add_row total partial.0 partial.1 in
    products a bs (low + 1) sum.0 sum.1

abbrev pub mul_row : List Literal → List Literal → Formula → List Literal × Formula
mul_row a b f = products a b 0 (zeros (length a)) f

pub record Division : Type 0 where
  pub quotient : List Literal
  pub rest : List Literal
  pub formula : Formula

-- the next lower bit below the others, of which the highest is dropped
abbrev pub brought_down : Literal → List Literal → List Literal
brought_down a r = a ∷ take (length r - 1) r

abbrev pub with_rest : List Literal → Literal → List Literal × Formula → Division
with_rest quotient q made = record { quotient = q ∷ quotient; rest = made.0; formula = made.1 }

-- one bit of the quotient, and the rest below it
pub record Restored : Type 0 where
  pub bit : Literal
  pub rest : List Literal
  pub formula : Formula

abbrev pub with_bit : Literal → List Literal × Formula → Restored
with_bit q made = record { bit = q; rest = made.0; formula = made.1 }

-- the difference where there is a carry; else the divisor can't be taken from it, and it stays
abbrev pub restored : List Literal → Sum → Restored
restored shifted d = with_bit d.carry (each (mux_gate d.carry) d.sums shifted d.formula)

-- One bit more of the dividend: the divisor, given by the negations of its bits, is taken from the rest.
unfoldable pub division_step : Literal → List Literal → List Literal → Formula → Restored
division_step a negated rest f =
    restored (brought_down a rest) (adder (brought_down a rest) negated (constant true) f)

abbrev pub with_quotient : List Literal → Restored → Division
with_quotient quotient r =
    record { quotient = r.bit ∷ quotient; rest = r.rest; formula = r.formula }

-- Restoring division, from the highest bit of the dividend down; the lists have the lowest first.
unfoldable pub division : List Literal → List Literal → Division → Division
division [] negated start = start
division (a ∷ as') negated start =
    let above = division as' negated start in
    with_quotient above.quotient (division_step a negated above.rest above.formula)

-- the divisor has a zero above it, and so has the rest
abbrev pub divided : List Literal → List Literal → Formula → Division
divided a b f = division a (negations (b ++ constant false ∷ []))
    (record { quotient = []; rest = zeros (length b) ++ constant false ∷ []; formula = f })

abbrev pub udiv_row : List Literal → List Literal → Formula → List Literal × Formula
udiv_row a b f = let d = divided a b f in (d.quotient, d.formula)

abbrev pub urem_row : List Literal → List Literal → Formula → List Literal × Formula
urem_row a b f = let d = divided a b f in (take (length a) d.rest, d.formula)
