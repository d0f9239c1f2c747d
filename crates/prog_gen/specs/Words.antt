-- The words of the generated program of a number, instruction by instruction ("RV32I Base Integer Instruction Set"; the
-- numbers of calls and their registers are those of Linux).
use Rattle.std.specs.Prelude.{ℕ, ◌+◌, ◌*◌, ◌%◌, ◌^◌, List, [], ◌∷◌, ◌++◌}
use Rattle.std.specs.List.{flat_map, range_with_len}

-- x5 is where the data begin, and x6, the sum, is 0
abbrev pub begin_words : List ℕ
begin_words =
    0x000112B7 ∷  -- LUI x5, 0x11
    0x00000313 ∷  -- ADDI x6, x0, 0
    []

-- what the byte at a place is compared with, a number from 1 to 255
abbrev pub bound : (number place : ℕ) → ℕ
bound number place = 1 + (37 * place + 11 * number) % 255

-- where the byte at this place is below its bound, place + 1 is added to the sum; the sum's low byte is stored
abbrev pub byte_words : (number place : ℕ) → List ℕ
byte_words number place =
    (0x0002C383 + place * 2 ^ 20) ∷  -- LBU x7, place(x5)
    (0x0003B393 + bound number place * 2 ^ 20) ∷  -- SLTIU x7, x7, bound
    0x00038463 ∷  -- BEQ x7, x0, 8
    (0x00030313 + (place + 1) * 2 ^ 20) ∷  -- ADDI x6, x6, place + 1
    (0x10628023 + place * 2 ^ 7) ∷  -- SB x6, 256 + place(x5)
    []

-- the sums are written, so many bytes, and the last is the status
abbrev pub end_words : ℕ → List ℕ
end_words number =
    0x00100513 ∷  -- ADDI x10, x0, 1
    0x10028593 ∷  -- ADDI x11, x5, 256
    (0x00000613 + number * 2 ^ 20) ∷  -- ADDI x12, x0, number
    0x04000893 ∷  -- ADDI x17, x0, 64
    0x00000073 ∷  -- ECALL, write
    0x00030513 ∷  -- ADDI x10, x6, 0
    0x05D00893 ∷  -- ADDI x17, x0, 93
    0x00000073 ∷  -- ECALL, exit
    []

unfoldable pub program_words : ℕ → List ℕ
program_words number =
    begin_words ++ flat_map (byte_words number) (range_with_len 0 number) ++ end_words number
