-- What the instructions compute, on numbers below 2 ^ 32: RISC-V unprivileged manual, "Integer Computational Instructions"
-- of RV32I, and "M Extension for Integer Multiplication and Division". Signed numbers are in two's complement.
use Rattle.std.specs.Prelude.{ℕ, ◌+◌, ◌-◌, ◌*◌, ◌/◌, ◌%◌, ◌^◌, ◌==◌, Bool, true, false, not, nat_lt, nat_le, bit_and, bit_or, bit_xor, if◌then◌else◌}
use Rattle.rv_decode.specs.declared.ops.Test.{Test}
use Rattle.rv_decode.specs.declared.ops.Test.TheVariants.{Beq, Bne, Blt, Bge, Bltu, Bgeu}
use Rattle.rv_decode.specs.declared.ops.ImmediateOp.{ImmediateOp}
use Rattle.rv_decode.specs.declared.ops.ImmediateOp.TheVariants.{Addi, Slti, Sltiu, Xori, Ori, Andi}
use Rattle.rv_decode.specs.declared.ops.ShiftOp.{ShiftOp}
use Rattle.rv_decode.specs.declared.ops.ShiftOp.TheVariants.{Slli, Srli, Srai}
use Rattle.rv_decode.specs.declared.ops.RegisterOp.{RegisterOp}
use Rattle.rv_decode.specs.declared.ops.RegisterOp.TheVariants.{Add, Sub, Sll, Slt, Sltu, Xor, Srl, Sra, Or, And, Mul, Mulh, Mulhsu, Mulhu, Div, Divu, Rem, Remu}

-- the sum modulo 2 ^ 32
abbrev pub sum32 : ℕ → ℕ → ℕ
sum32 a b = (a + b) % 2 ^ 32

unfoldable pub difference32 : ℕ → ℕ → ℕ
difference32 a b = (a + (2 ^ 32 - b)) % 2 ^ 32

unfoldable pub is_negative_word : ℕ → Bool
is_negative_word a = nat_le (2 ^ 31) a

-- the signed number is below the other: adding 2 ^ 31 puts both in order
unfoldable pub is_less_signed : ℕ → ℕ → Bool
is_less_signed a b = nat_lt ((a + 2 ^ 31) % 2 ^ 32) ((b + 2 ^ 31) % 2 ^ 32)

abbrev pub one_where : Bool → ℕ
one_where test = if test then 1 else 0

-- Shifts by less than 32.
unfoldable pub shifted_left : ℕ → ℕ → ℕ
shifted_left a amount = a * 2 ^ amount % 2 ^ 32

unfoldable pub shifted_right : ℕ → ℕ → ℕ
shifted_right a amount = a / 2 ^ amount

-- copies of the sign are shifted in
unfoldable pub shifted_right_signed : ℕ → ℕ → ℕ
shifted_right_signed a amount =
    if is_negative_word a then 2 ^ 32 - 1 - (2 ^ 32 - 1 - a) / 2 ^ amount else a / 2 ^ amount

-- the low five bits of a register say by how much it is shifted
abbrev pub amount_of : ℕ → ℕ
amount_of b = b % 32

-- a signed number in 64 bits
unfoldable pub wide_signed : ℕ → ℕ
wide_signed a = if is_negative_word a then a + (2 ^ 64 - 2 ^ 32) else a

-- the upper 32 bits of a product of 64
unfoldable pub upper_half : ℕ → ℕ
upper_half product = product % 2 ^ 64 / 2 ^ 32

-- how far a signed number is from 0
unfoldable pub magnitude : ℕ → ℕ
magnitude a = if is_negative_word a then 2 ^ 32 - a else a

unfoldable pub with_sign : Bool → ℕ → ℕ
with_sign negative n = if negative then (2 ^ 32 - n) % 2 ^ 32 else n % 2 ^ 32

abbrev pub differ : Bool → Bool → Bool
differ true b = not b
differ false b = b

-- Signed division rounds towards zero, and a remainder has the sign of the dividend. Division by zero gives all ones,
-- and its remainder is the dividend; -2 ^ 31 by -1 gives -2 ^ 31, remainder 0.
unfoldable pub quotient_signed : ℕ → ℕ → ℕ
quotient_signed a b = if b == 0 then 2 ^ 32 - 1
    else with_sign (differ (is_negative_word a) (is_negative_word b)) (magnitude a / magnitude b)

unfoldable pub remainder_signed : ℕ → ℕ → ℕ
remainder_signed a b = if b == 0 then a
    else with_sign (is_negative_word a) (magnitude a % magnitude b)

unfoldable pub quotient : ℕ → ℕ → ℕ
quotient a b = if b == 0 then 2 ^ 32 - 1 else a / b

unfoldable pub remainder : ℕ → ℕ → ℕ
remainder a b = if b == 0 then a else a % b

-- One equation for each test and operation.
abbrev pub passes : Test → ℕ → ℕ → Bool
passes Beq a b = a == b
passes Bne a b = not (a == b)
passes Blt a b = is_less_signed a b
passes Bge a b = not (is_less_signed a b)
passes Bltu a b = nat_lt a b
passes Bgeu a b = not (nat_lt a b)

abbrev pub with_immediate : ImmediateOp → ℕ → ℕ → ℕ
with_immediate Addi a b = sum32 a b
with_immediate Slti a b = one_where (is_less_signed a b)
with_immediate Sltiu a b = one_where (nat_lt a b)
with_immediate Xori a b = bit_xor a b
with_immediate Ori a b = bit_or a b
with_immediate Andi a b = bit_and a b

abbrev pub shifted : ShiftOp → ℕ → ℕ → ℕ
shifted Slli a amount = shifted_left a amount
shifted Srli a amount = shifted_right a amount
shifted Srai a amount = shifted_right_signed a amount

abbrev pub combined : RegisterOp → ℕ → ℕ → ℕ
combined Add a b = sum32 a b
combined Sub a b = difference32 a b
combined Sll a b = shifted_left a (amount_of b)
combined Slt a b = one_where (is_less_signed a b)
combined Sltu a b = one_where (nat_lt a b)
combined Xor a b = bit_xor a b
combined Srl a b = shifted_right a (amount_of b)
combined Sra a b = shifted_right_signed a (amount_of b)
combined Or a b = bit_or a b
combined And a b = bit_and a b
combined Mul a b = a * b % 2 ^ 32
combined Mulh a b = upper_half (wide_signed a * wide_signed b)
combined Mulhsu a b = upper_half (wide_signed a * b)
combined Mulhu a b = upper_half (a * b)
combined Div a b = quotient_signed a b
combined Divu a b = quotient a b
combined Rem a b = remainder_signed a b
combined Remu a b = remainder a b
