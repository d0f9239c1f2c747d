-- What gates and rows are to be worth.
use Rattle.std.specs.Prelude.{ℕ, Bool, true, false, not, ◌&&◌, ◌||◌, List, length}
use Rattle.cnf_form.specs.Literals.{Literal}
use Rattle.bv_dag.specs.BitVectors.{BitVector}
use Rattle.circuit_spec.specs.Bytes.{number_of_row}

-- What gates are to be worth.

-- whether just one of two is true
abbrev pub is_xor : Bool → Bool → Bool
is_xor true b = not b
is_xor false b = b

-- the sum and the carry of a full adder
abbrev pub sum_bit : Bool → Bool → Bool → Bool
sum_bit a b c = is_xor a (is_xor b c)

abbrev pub carry_bit : Bool → Bool → Bool → Bool
carry_bit true b c = b || c
carry_bit false b c = b && c

-- the bit-vector that a row is under a valuation
abbrev pub row_value : (ℕ → Bool) → List Literal → BitVector
row_value v row = record { width = length row; number = number_of_row v row }
