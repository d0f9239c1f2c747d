-- What a step of the machine makes of a symbolic run, where it decides so: each instruction makes its
-- terms in one way. The cases are the machine's. A step that traps makes nothing but what its path
-- notes before the trap.
use Rattle.std.specs.Prelude.{ℕ, zero, suc, ◌%◌, ◌==◌, Bool, true, false, min, List, [], ◌∷◌, ◌++◌, map, if◌then◌else◌, is_some, Option, Some, None}
use Rattle.std.specs.List.{list_all}
use Rattle.elf_load.specs.Images.{Image}
use Rattle.elf_load.specs.declared.region.Region.{Region}
use Rattle.rv_decode.specs.Instructions.{instr}
use Rattle.rv_decode.specs.declared.instr.Instr.{Instr}
use Rattle.rv_decode.specs.declared.instr.Instr.TheVariants.{Lui, Auipc, Jal, Jalr, Branch, Load, Store, Immediate, ShiftImmediate, Binary, Fence, Ecall, Ebreak}
use Rattle.rv_decode.specs.declared.ends.PathStep.{PathStep}
use Rattle.rv_decode.specs.declared.ends.PathStep.TheVariants.{Taken, NotTaken, Target}
use Rattle.rv_decode.specs.declared.ops.ImmediateOp.{ImmediateOp}
use Rattle.rv_decode.specs.declared.ops.ImmediateOp.TheVariants.{Addi, Slti, Sltiu, Xori, Ori, Andi}
use Rattle.rv_decode.specs.declared.ops.LoadWidth.{LoadWidth}
use Rattle.rv_decode.specs.declared.ops.LoadWidth.TheVariants.{Lb, Lh, Lw, Lbu, Lhu}
use Rattle.rv_decode.specs.declared.ops.RegisterOp.{RegisterOp}
use Rattle.rv_decode.specs.declared.ops.RegisterOp.TheVariants.{Add, Slt, Sltu, Xor, Or, And, Sll, Srl, Sra}
use Rattle.rv_decode.specs.declared.ops.ShiftOp.{ShiftOp}
use Rattle.rv_decode.specs.declared.ops.ShiftOp.TheVariants.{Slli, Srli, Srai}
use Rattle.rv_decode.specs.declared.ops.StoreWidth.{StoreWidth}
use Rattle.rv_spec.specs.Arithmetic.{sum32}
use Rattle.fork_spec.specs.Decisions.{Decision, Side, Number as Needs, as_load, step_decisions}
use Rattle.rv_spec.specs.Machine.{addresses}
use Rattle.rv_spec.specs.Memory.{has_w, is_mapped}
use Rattle.rv_spec.specs.Runs.{run}
use Rattle.sym_state.specs.Expressions.{Expression, Number, combined_of}
use Rattle.sym_state.specs.Storing.{stored_on, with_expressions}
use Rattle.sym_state.specs.Updates.{loaded_on, updates_after, without_bytes}
use Rattle.sym_state.specs.Unfolded.{Unfolded, expression_at, first_unfolded, set_expression}

-- at the next instruction, with these registers
abbrev pub onward : Unfolded → List Expression → Unfolded
onward u registers = record u { pc = sum32 u.pc 4; registers = registers }

-- at the next instruction, with a register written
abbrev pub to_register : Unfolded → ℕ → Expression → Unfolded
to_register u rd e = onward u (set_expression u.registers rd e)

-- from an address on this page
abbrev pub load : Unfolded → LoadWidth → (rd page : ℕ) → (address : Expression) → Unfolded
load u width rd page address =
    if is_some (u.flags page) then to_register u rd (loaded_on width u.byte u.updates page address)
    else u

abbrev pub with_put : Unfolded → ℕ → List Expression → Unfolded
with_put u address es = record u {
  byte = with_expressions u.byte address es;
  updates = without_bytes address es u.updates;
}

abbrev pub with_store : Unfolded → StoreWidth → (page : ℕ) → (address value : Expression) → Unfolded
with_store u width page address e = record u {
  byte = stored_on width u.byte page address e;
  updates = updates_after width u.byte u.updates page address e;
}

-- to an address on this page
abbrev pub store : Unfolded → StoreWidth → (page : ℕ) → (address value : Expression) → Unfolded
store u width page address e =
    if has_w (u.flags page)
    then onward (with_store u width page address e) u.registers else u

abbrev pub noted : Unfolded → PathStep → Unfolded
noted u step = record u { path = u.path ++ step ∷ [] }

-- to a target, which may be no multiple of 4
abbrev pub jump : Unfolded → ℕ → Unfolded
jump u target = if target % 4 == 0 then record u { pc = target } else u

abbrev pub branch : Unfolded → Bool → ℕ → Unfolded
branch u true target = jump (noted u Taken) target
branch u false target = onward (noted u NotTaken) u.registers

-- to a target, and the next instruction's address into a register
abbrev pub linked : Unfolded → (rd target : ℕ) → Unfolded
linked u rd target =
    if target % 4 == 0
    then record u { pc = target; registers = set_expression u.registers rd (Number (sum32 u.pc 4)) }
    else u

abbrev pub write : Unfolded → (start count : ℕ) → Unfolded
write u start count =
    if list_all (is_mapped u.flags) (addresses start count)
    then onward (record u { output = u.output ++ map u.byte (addresses start count) })
    (set_expression u.registers 10 (Number count))
    else u

-- the call that the first number names: 64 writes, where the next is a file
abbrev pub call : Unfolded → List Decision → Unfolded
call u (Needs a7 ∷ Needs file ∷ Needs start ∷ Needs count ∷ []) =
    if a7 == 64 then write u start (min count 4096) else u
call u decisions = u

-- The operations of two registers that those with an immediate are.
abbrev pub of_immediate : ImmediateOp → RegisterOp
of_immediate Addi = Add
of_immediate Slti = Slt
of_immediate Sltiu = Sltu
of_immediate Xori = Xor
of_immediate Ori = Or
of_immediate Andi = And

abbrev pub of_shift : ShiftOp → RegisterOp
of_shift Slli = Sll
of_shift Srli = Srl
of_shift Srai = Sra

-- what is made with the first of these decisions, a number or a side; without it nothing
abbrev pub with_number : Unfolded → List Decision → (ℕ → Unfolded) → Unfolded
with_number u (Needs n ∷ decisions) makes = makes n
with_number u decisions makes = u

-- and with the second
abbrev pub with_second : Unfolded → List Decision → (ℕ → Unfolded) → Unfolded
with_second u (first ∷ decisions) makes = with_number u decisions makes
with_second u [] makes = u

-- what is made with the page that a load or a store decides
abbrev pub with_page : LoadWidth → Unfolded → List Decision → (ℕ → Unfolded) → Unfolded
with_page Lb u decisions makes = with_number u decisions makes
with_page Lh u decisions makes = with_second u decisions makes
with_page Lw u decisions makes = with_second u decisions makes
with_page Lbu u decisions makes = with_number u decisions makes
with_page Lhu u decisions makes = with_second u decisions makes

-- a load, with what it decides
abbrev pub load_by : Unfolded → LoadWidth → (rd : ℕ) → (address : Expression) → List Decision
    → Unfolded
load_by u width rd address decisions =
    with_page width u decisions (λ page. load u width rd page address)

-- a store, with what it decides
abbrev pub store_by : Unfolded → StoreWidth → (address value : Expression) → List Decision → Unfolded
store_by u width address e decisions =
    with_page (as_load width) u decisions (λ page. store u width page address e)

abbrev pub with_side : Unfolded → List Decision → (Bool → Unfolded) → Unfolded
with_side u (Side side ∷ decisions) makes = makes side
with_side u decisions makes = u

-- one equation for each instruction, from what it decides beside its own word
abbrev pub execute_of : Unfolded → Instr → List Decision → Unfolded
execute_of u (Lui rd upper) decisions = to_register u rd (Number upper)
execute_of u (Auipc rd upper) decisions = to_register u rd (Number (sum32 u.pc upper))
execute_of u (Jal rd offset) decisions = linked u rd (sum32 u.pc offset)
execute_of u (Jalr rd rs1 offset) decisions =
    with_number u decisions (λ target. linked (noted u (Target target)) rd target)
execute_of u (Branch test rs1 rs2 offset) decisions =
    with_side u decisions (λ taken. branch u taken (sum32 u.pc offset))
execute_of u (Load width rd rs1 offset) decisions =
    load_by u width rd (combined_of Add (expression_at u.registers rs1) (Number offset)) decisions
execute_of u (Store width rs1 rs2 offset) decisions =
    store_by u width (combined_of Add (expression_at u.registers rs1) (Number offset))
    (expression_at u.registers rs2) decisions
execute_of u (Immediate op rd rs1 immediate) decisions =
    to_register u rd (combined_of (of_immediate op) (expression_at u.registers rs1)
    (Number immediate))
execute_of u (ShiftImmediate op rd rs1 amount) decisions =
    to_register u rd (combined_of (of_shift op) (expression_at u.registers rs1) (Number amount))
execute_of u (Binary op rd rs1 rs2) decisions =
    to_register u rd (combined_of op (expression_at u.registers rs1)
    (expression_at u.registers rs2))
execute_of u Fence decisions = onward u u.registers
execute_of u Ecall decisions = call u decisions
execute_of u Ebreak decisions = u

abbrev pub execute_word : Unfolded → Option Instr → List Decision → Unfolded
execute_word u None decisions = u
execute_word u (Some instruction) decisions = execute_of u instruction decisions

-- one step: nothing is fetched where it decides nothing
unfoldable pub next_unfolded : Unfolded → List Decision → Unfolded
next_unfolded u (Needs word ∷ decisions) = execute_word u (instr word) decisions
next_unfolded u decisions = u

-- a program's run on an assignment, with its terms: a function of the program and of what the run decides
unfoldable pub unfolded_run : Image → List Region → List ℕ → ℕ → Unfolded
unfolded_run image regions input zero = first_unfolded image regions
unfolded_run image regions input (suc most) =
    next_unfolded (unfolded_run image regions input most)
    (step_decisions (run image regions input most).state)
