-- The instruction that a word is: RISC-V unprivileged manual, "RV32I Base Integer Instruction Set",
-- "M Extension for Integer Multiplication and Division" and "RV32/64G Instruction Set Listings".
use Rattle.std.specs.Prelude.{ℕ, ◌<◌, ◌==◌, if◌then◌else◌, Option, Some, None}
use Rattle.std.specs.Option.{option_map}
use Rattle.rv_decode.specs.declared.instr.Instr.{Instr}
use Rattle.rv_decode.specs.declared.instr.Instr.TheVariants.{Lui, Auipc, Jal, Jalr, Branch, Load, Store, Immediate, ShiftImmediate, Binary, Fence, Ecall, Ebreak}
use Rattle.rv_decode.specs.Fields.{opcode, rd, funct3, rs1, rs2, funct7, i_immediate, s_immediate, b_immediate, u_immediate, j_immediate}
use Rattle.rv_decode.specs.Ops.{branch_test, load_width, store_width, immediate_op, shift_op, register_op}

-- The words of one opcode.
abbrev pub jalr_instr : ℕ → Option Instr
jalr_instr word = if funct3 word == 0b000 then Some (Jalr (rd word) (rs1 word) (i_immediate word))
    else None

abbrev pub branch_instr : ℕ → Option Instr
branch_instr word = option_map (λ test. Branch test (rs1 word) (rs2 word) (b_immediate word))
    (branch_test (funct3 word))

abbrev pub load_instr : ℕ → Option Instr
load_instr word = option_map (λ width. Load width (rd word) (rs1 word) (i_immediate word))
    (load_width (funct3 word))

abbrev pub store_instr : ℕ → Option Instr
store_instr word = option_map (λ width. Store width (rs1 word) (rs2 word) (s_immediate word))
    (store_width (funct3 word))

abbrev pub immediate_instr : ℕ → Option Instr
immediate_instr word = option_map (λ op. Immediate op (rd word) (rs1 word) (i_immediate word))
    (immediate_op (funct3 word))

-- the amount of a shift stands where another instruction has its second register
abbrev pub shift_instr : ℕ → Option Instr
shift_instr word = option_map (λ op. ShiftImmediate op (rd word) (rs1 word) (rs2 word))
    (shift_op (funct3 word) (funct7 word))

abbrev pub register_immediate_instr : ℕ → Option Instr
register_immediate_instr word =
    if funct3 word == 0b001 then shift_instr word else
    if funct3 word == 0b101 then shift_instr word else immediate_instr word

abbrev pub binary_instr : ℕ → Option Instr
binary_instr word = option_map (λ op. Binary op (rd word) (rs1 word) (rs2 word))
    (register_op (funct3 word) (funct7 word))

abbrev pub fence_instr : ℕ → Option Instr
fence_instr word = if funct3 word == 0b000 then Some Fence else None

abbrev pub system_instr : ℕ → Option Instr
system_instr word =
    if word == 0x00000073 then Some Ecall else
    if word == 0x00100073 then Some Ebreak else None

-- the instruction of a word, by its opcode
abbrev pub instr : ℕ → Option Instr
instr word =
    if opcode word == 0b011_0111 then Some (Lui (rd word) (u_immediate word)) else
    if opcode word == 0b001_0111 then Some (Auipc (rd word) (u_immediate word)) else
    if opcode word == 0b110_1111 then Some (Jal (rd word) (j_immediate word)) else
    if opcode word == 0b110_0111 then jalr_instr word else
    if opcode word == 0b110_0011 then branch_instr word else
    if opcode word == 0b000_0011 then load_instr word else
    if opcode word == 0b010_0011 then store_instr word else
    if opcode word == 0b001_0011 then register_immediate_instr word else
    if opcode word == 0b011_0011 then binary_instr word else
    if opcode word == 0b000_1111 then fence_instr word else
    if opcode word == 0b111_0011 then system_instr word else None

-- an instruction that shifts by a fixed amount shifts by less than 32
abbrev pub ShiftsBelow32 : Instr → Type 0
ShiftsBelow32 (Lui rd upper) = Unit {0}
ShiftsBelow32 (Auipc rd upper) = Unit {0}
ShiftsBelow32 (Jal rd offset) = Unit {0}
ShiftsBelow32 (Jalr rd rs1 offset) = Unit {0}
ShiftsBelow32 (Branch test rs1 rs2 offset) = Unit {0}
ShiftsBelow32 (Load width rd rs1 offset) = Unit {0}
ShiftsBelow32 (Store width rs1 rs2 offset) = Unit {0}
ShiftsBelow32 (Immediate op rd rs1 immediate_instr) = Unit {0}
ShiftsBelow32 (ShiftImmediate op rd rs1 amount) = amount < 32
ShiftsBelow32 (Binary op rd rs1 rs2) = Unit {0}
ShiftsBelow32 Fence = Unit {0}
ShiftsBelow32 Ecall = Unit {0}
ShiftsBelow32 Ebreak = Unit {0}
