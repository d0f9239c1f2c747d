-- The machine under test, one assignment of the input bytes at a time: RISC-V unprivileged manual, "RV32I Base Integer
-- Instruction Set" and "M Extension for Integer Multiplication and Division". It knows numbers and plain memory only.
use Rattle.std.specs.Prelude.{ℕ, zero, suc, ◌*◌, ◌/◌, ◌%◌, ◌^◌, ◌==◌, ◌||◌, Bool, true, false, min, if◌then◌else◌, List, [], ◌∷◌, ◌++◌, map, replicate, slice_index, slice_set, Option, Result, Ok, Err}
use Rattle.std.specs.List.{list_all}
use Rattle.std.specs.Option.{ok_or}
use Rattle.rv_decode.specs.Fields.{sign_extended}
use Rattle.rv_decode.specs.Instructions.{instr}
use Rattle.rv_decode.specs.declared.instr.Instr.{Instr}
use Rattle.rv_decode.specs.declared.instr.Instr.TheVariants.{Lui, Auipc, Jal, Jalr, Branch, Load, Store, Immediate, ShiftImmediate, Binary, Fence, Ecall, Ebreak}
use Rattle.rv_decode.specs.declared.ops.LoadWidth.{LoadWidth}
use Rattle.rv_decode.specs.declared.ops.LoadWidth.TheVariants.{Lb, Lh, Lw, Lbu, Lhu}
use Rattle.rv_decode.specs.declared.ops.StoreWidth.{StoreWidth}
use Rattle.rv_decode.specs.declared.ops.StoreWidth.TheVariants.{Sb, Sh, Sw}
use Rattle.rv_decode.specs.declared.ends.Trap.{Trap}
use Rattle.rv_decode.specs.declared.ends.Trap.TheVariants.{Illegal, FetchMisaligned, FetchAccess, LoadMisaligned, LoadAccess, StoreMisaligned, StoreAccess, Break, Call}
use Rattle.rv_decode.specs.declared.ends.End.{End}
use Rattle.rv_decode.specs.declared.ends.End.TheVariants.{Exit, Trapped}
use Rattle.rv_decode.specs.declared.ends.PathStep.{PathStep}
use Rattle.rv_decode.specs.declared.ends.PathStep.TheVariants.{Taken, NotTaken, Target}
use Rattle.rv_spec.specs.Arithmetic.{sum32, passes, with_immediate, shifted, combined}
use Rattle.rv_spec.specs.Memory.{flags_of, byte_of, placed, is_mapped, can_execute, can_write, half_at, word_at, with_bytes}
use Rattle.elf_load.specs.Images.{Image}
use Rattle.elf_load.specs.declared.region.Region.{Region}

pub record State : Type 0 where
  pub pc : ℕ
  -- x0 to x31
  pub registers : List ℕ
  pub flags : ℕ → Option ℕ
  pub byte : ℕ → ℕ
  -- the bytes written so far
  pub output : List ℕ
  -- what each conditional branch so far did, and where each JALR went
  pub path : List PathStep

-- all registers are 0 but the stack pointer, x2
abbrev pub first_registers : List ℕ
first_registers = slice_set (replicate 32 0) 2 0x7FFFFFF0

-- the state in which the run of an assignment begins
abbrev pub first_state : Image → List Region → List ℕ → State
first_state image regions input = record {
  pc = image.entry;
  registers = first_registers;
  flags = flags_of image;
  byte = placed regions input (byte_of image);
  output = [];
  path = [];
}

-- x0 is never written, so that it reads 0
abbrev pub written : List ℕ → ℕ → ℕ → List ℕ
written registers rd value = if rd == 0 then registers else slice_set registers rd value

abbrev pub x : State → ℕ → ℕ
x s r = slice_index s.registers r

-- the instruction at an address, or why there is none: alignment is tested first, and then the page
unfoldable pub fetch : (ℕ → Option ℕ) → (ℕ → ℕ) → ℕ → Result Instr Trap
fetch flags byte pc =
    if pc % 4 == 0 then (if can_execute flags pc then ok_or (instr (word_at byte pc)) Illegal
    else Err FetchAccess)
    else Err FetchMisaligned

-- what an instruction leads to
pub data Outcome : Type 0 where
  Running : State → Outcome
  Ended : End → State → Outcome

-- a trapped instruction writes nothing
abbrev pub trapped : Trap → State → Outcome
trapped trap s = Ended (Trapped trap) s

-- at the next instruction, with these registers
abbrev pub onward : State → List ℕ → State
onward s registers = record s { pc = sum32 s.pc 4; registers = registers }

-- at the next instruction, with a register written
abbrev pub to_register : State → ℕ → ℕ → Outcome
to_register s rd value = Running (onward s (written s.registers rd value))

abbrev pub is_load_aligned : LoadWidth → ℕ → Bool
is_load_aligned Lb address = true
is_load_aligned Lh address = address % 2 == 0
is_load_aligned Lw address = address % 4 == 0
is_load_aligned Lbu address = true
is_load_aligned Lhu address = address % 2 == 0

abbrev pub loaded : LoadWidth → (ℕ → ℕ) → ℕ → ℕ
loaded Lb byte address = sign_extended 8 (byte address)
loaded Lh byte address = sign_extended 16 (half_at byte address)
loaded Lw byte address = word_at byte address
loaded Lbu byte address = byte address
loaded Lhu byte address = half_at byte address

-- alignment is tested before the page
abbrev pub load : State → LoadWidth → ℕ → ℕ → Outcome
load s width rd address =
    if is_load_aligned width address
    then (if is_mapped s.flags address then to_register s rd (loaded width s.byte address)
    else trapped LoadAccess s)
    else trapped LoadMisaligned s

abbrev pub is_store_aligned : StoreWidth → ℕ → Bool
is_store_aligned Sb address = true
is_store_aligned Sh address = address % 2 == 0
is_store_aligned Sw address = address % 4 == 0

-- the bytes that are stored, low byte first
abbrev pub stored : StoreWidth → ℕ → List ℕ
stored Sb value = value % 2 ^ 8 ∷ []
stored Sh value = value % 2 ^ 8 ∷ value / 2 ^ 8 % 2 ^ 8 ∷ []
stored Sw value = value % 2 ^ 8 ∷ value / 2 ^ 8 % 2 ^ 8 ∷ value / 2 ^ 16 % 2 ^ 8
    ∷ value / 2 ^ 24 % 2 ^ 8 ∷ []

abbrev pub store : State → StoreWidth → ℕ → ℕ → Outcome
store s width address value =
    if is_store_aligned width address
    then (if can_write s.flags address
    then Running (onward (record s { byte = with_bytes s.byte address (stored width value) })
    s.registers) else trapped StoreAccess s)
    else trapped StoreMisaligned s

-- to a target, which may be no multiple of 4
abbrev pub jump : State → ℕ → Outcome
jump s target = if target % 4 == 0 then Running (record s { pc = target })
    else trapped FetchMisaligned s

abbrev pub noted : State → PathStep → State
noted s step = record s { path = s.path ++ step ∷ [] }

-- the path is noted before a trap of the target
abbrev pub branch : State → Bool → ℕ → Outcome
branch s true target = jump (noted s Taken) target
branch s false target = Running (onward (noted s NotTaken) s.registers)

-- so many addresses from one on
unfoldable pub addresses : ℕ → ℕ → List ℕ
addresses start zero = []
addresses start (suc count) = start ∷ addresses (sum32 start 1) count

-- the first 4096 bytes at most are written, and their number is answered in a0
unfoldable pub write : State → (file start count : ℕ) → Outcome
write s file start count =
    let bytes = addresses start (min count 4096) in
    if file == 1 || file == 2 then
    (if list_all (is_mapped s.flags) bytes
    then Running (onward (record s { output = s.output ++ map s.byte bytes })
    (written s.registers 10 (min count 4096)))
    else trapped LoadAccess s)
    else trapped Call s

-- the call that a7 names: 93 exits with the low byte of a0, 64 writes
abbrev pub call : State → ℕ → Outcome
call s a7 =
    if a7 == 93 then Ended (Exit (x s 10 % 256)) s
    else (if a7 == 64 then write s (x s 10) (x s 11) (x s 12) else trapped Call s)

-- to a target, and the next instruction's address into a register
abbrev pub jump_and_link : State → ℕ → ℕ → Outcome
jump_and_link s rd target =
    jump (record s { registers = written s.registers rd (sum32 s.pc 4) }) target

-- the trap of a misaligned target writes nothing
abbrev pub linked : State → ℕ → ℕ → Outcome
linked s rd target = if target % 4 == 0 then jump_and_link s rd target
    else trapped FetchMisaligned s

-- with the lowest bit cleared
abbrev pub even : ℕ → ℕ
even n = n / 2 * 2

-- one equation for each instruction
abbrev pub execute : State → Instr → Outcome
execute s (Lui rd upper) = to_register s rd upper
execute s (Auipc rd upper) = to_register s rd (sum32 s.pc upper)
execute s (Jal rd offset) = linked s rd (sum32 s.pc offset)
execute s (Jalr rd rs1 offset) = let target = even (sum32 (x s rs1) offset)
    in linked (noted s (Target target)) rd target
execute s (Branch test rs1 rs2 offset) =
    branch s (passes test (x s rs1) (x s rs2)) (sum32 s.pc offset)
execute s (Load width rd rs1 offset) = load s width rd (sum32 (x s rs1) offset)
execute s (Store width rs1 rs2 offset) = store s width (sum32 (x s rs1) offset) (x s rs2)
execute s (Immediate op rd rs1 immediate) = to_register s rd (with_immediate op (x s rs1) immediate)
execute s (ShiftImmediate op rd rs1 amount) = to_register s rd (shifted op (x s rs1) amount)
execute s (Binary op rd rs1 rs2) = to_register s rd (combined op (x s rs1) (x s rs2))
execute s Fence = Running (onward s s.registers)
execute s Ecall = call s (x s 17)
execute s Ebreak = trapped Break s

abbrev pub execute_fetched : State → Result Instr Trap → Outcome
execute_fetched s (Ok instruction) = execute s instruction
execute_fetched s (Err trap) = trapped trap s

-- one step
unfoldable pub next : State → Outcome
next s = execute_fetched s (fetch s.flags s.byte s.pc)
