-- The fields of a word: RISC-V unprivileged manual, "Base Instruction Formats" and "Immediate Encoding Variants".
use Rattle.std.specs.Prelude.{ℕ, ◌+◌, ◌-◌, ◌*◌, ◌/◌, ◌%◌, ◌^◌, nat_lt, if◌then◌else◌}

-- so many bits of a word, from this one up
unfoldable pub bits : ℕ → ℕ → ℕ → ℕ
bits word low count = word / 2 ^ low % 2 ^ count

-- The fields that name the instruction and its registers.
abbrev pub opcode : ℕ → ℕ
opcode word = bits word 0 7

abbrev pub rd : ℕ → ℕ
rd word = bits word 7 5

abbrev pub funct3 : ℕ → ℕ
funct3 word = bits word 12 3

abbrev pub rs1 : ℕ → ℕ
rs1 word = bits word 15 5

abbrev pub rs2 : ℕ → ℕ
rs2 word = bits word 20 5

abbrev pub funct7 : ℕ → ℕ
funct7 word = bits word 25 7

-- a number of so many bits in two's complement, modulo 2 ^ 32
unfoldable pub sign_extended : ℕ → ℕ → ℕ
sign_extended count number =
    if nat_lt number (2 ^ (count - 1)) then number else number + (2 ^ 32 - 2 ^ count)

-- The immediates. Each sum has the word's fields from the highest bit down, each times the place of its lowest bit.
unfoldable pub i_immediate : ℕ → ℕ
i_immediate word = sign_extended 12 (bits word 20 12)

unfoldable pub s_immediate : ℕ → ℕ
s_immediate word = sign_extended 12 (bits word 25 7 * 32 + bits word 7 5)

unfoldable pub b_immediate : ℕ → ℕ
b_immediate word = sign_extended 13
    (bits word 31 1 * 4096 + bits word 7 1 * 2048 + bits word 25 6 * 32 + bits word 8 4 * 2)

unfoldable pub u_immediate : ℕ → ℕ
u_immediate word = bits word 12 20 * 4096

unfoldable pub j_immediate : ℕ → ℕ
j_immediate word = sign_extended 21
    (bits word 31 1 * 0x100000 + bits word 12 8 * 4096 + bits word 20 1 * 2048
    + bits word 21 10 * 2)
