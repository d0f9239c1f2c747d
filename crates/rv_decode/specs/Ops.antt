-- What the instructions of one opcode tell apart, by funct3 and funct7:
-- RISC-V unprivileged manual, "RV32/64G Instruction Set Listings".
use Rattle.std.specs.Prelude.{ℕ, ◌==◌, if◌then◌else◌, Option, Some, None}
use Rattle.rv_decode.specs.declared.ops.Test.{Test}
use Rattle.rv_decode.specs.declared.ops.Test.TheVariants.{Beq, Bne, Blt, Bge, Bltu, Bgeu}
use Rattle.rv_decode.specs.declared.ops.LoadWidth.{LoadWidth}
use Rattle.rv_decode.specs.declared.ops.LoadWidth.TheVariants.{Lb, Lh, Lw, Lbu, Lhu}
use Rattle.rv_decode.specs.declared.ops.StoreWidth.{StoreWidth}
use Rattle.rv_decode.specs.declared.ops.StoreWidth.TheVariants.{Sb, Sh, Sw}
use Rattle.rv_decode.specs.declared.ops.ImmediateOp.{ImmediateOp}
use Rattle.rv_decode.specs.declared.ops.ImmediateOp.TheVariants.{Addi, Slti, Sltiu, Xori, Ori, Andi}
use Rattle.rv_decode.specs.declared.ops.ShiftOp.{ShiftOp}
use Rattle.rv_decode.specs.declared.ops.ShiftOp.TheVariants.{Slli, Srli, Srai}
use Rattle.rv_decode.specs.declared.ops.RegisterOp.{RegisterOp}
use Rattle.rv_decode.specs.declared.ops.RegisterOp.TheVariants.{Add, Sub, Sll, Slt, Sltu, Xor, Srl, Sra, Or, And, Mul, Mulh, Mulhsu, Mulhu, Div, Divu, Rem, Remu}

-- by funct3
abbrev pub branch_test : ℕ → Option Test
branch_test funct3 =
    if funct3 == 0b000 then Some Beq else
    if funct3 == 0b001 then Some Bne else
    if funct3 == 0b100 then Some Blt else
    if funct3 == 0b101 then Some Bge else
    if funct3 == 0b110 then Some Bltu else
    if funct3 == 0b111 then Some Bgeu else None

-- by funct3
abbrev pub load_width : ℕ → Option LoadWidth
load_width funct3 =
    if funct3 == 0b000 then Some Lb else
    if funct3 == 0b001 then Some Lh else
    if funct3 == 0b010 then Some Lw else
    if funct3 == 0b100 then Some Lbu else
    if funct3 == 0b101 then Some Lhu else None

-- by funct3
abbrev pub store_width : ℕ → Option StoreWidth
store_width funct3 =
    if funct3 == 0b000 then Some Sb else
    if funct3 == 0b001 then Some Sh else
    if funct3 == 0b010 then Some Sw else None

-- by funct3
abbrev pub immediate_op : ℕ → Option ImmediateOp
immediate_op funct3 =
    if funct3 == 0b000 then Some Addi else
    if funct3 == 0b010 then Some Slti else
    if funct3 == 0b011 then Some Sltiu else
    if funct3 == 0b100 then Some Xori else
    if funct3 == 0b110 then Some Ori else
    if funct3 == 0b111 then Some Andi else None

-- by funct3 and funct7
abbrev pub shift_op : ℕ → ℕ → Option ShiftOp
shift_op funct3 funct7 =
    if funct3 == 0b001 then (if funct7 == 0b000_0000 then Some Slli else None) else
    if funct3 == 0b101 then (if funct7 == 0b000_0000 then Some Srli else if funct7 == 0b010_0000
    then Some Srai else None) else None

-- by funct3, under the funct7 0000000
abbrev pub base_op : ℕ → Option RegisterOp
base_op funct3 =
    if funct3 == 0b000 then Some Add else
    if funct3 == 0b001 then Some Sll else
    if funct3 == 0b010 then Some Slt else
    if funct3 == 0b011 then Some Sltu else
    if funct3 == 0b100 then Some Xor else
    if funct3 == 0b101 then Some Srl else
    if funct3 == 0b110 then Some Or else
    if funct3 == 0b111 then Some And else None

-- by funct3, under the funct7 0100000
abbrev pub alternate_op : ℕ → Option RegisterOp
alternate_op funct3 =
    if funct3 == 0b000 then Some Sub else
    if funct3 == 0b101 then Some Sra else None

-- by funct3, under the funct7 0000001
abbrev pub multiply_op : ℕ → Option RegisterOp
multiply_op funct3 =
    if funct3 == 0b000 then Some Mul else
    if funct3 == 0b001 then Some Mulh else
    if funct3 == 0b010 then Some Mulhsu else
    if funct3 == 0b011 then Some Mulhu else
    if funct3 == 0b100 then Some Div else
    if funct3 == 0b101 then Some Divu else
    if funct3 == 0b110 then Some Rem else
    if funct3 == 0b111 then Some Remu else None

-- by funct3 and funct7
abbrev pub register_op : ℕ → ℕ → Option RegisterOp
register_op funct3 funct7 =
    if funct7 == 0b000_0000 then base_op funct3 else
    if funct7 == 0b010_0000 then alternate_op funct3 else
    if funct7 == 0b000_0001 then multiply_op funct3 else None
