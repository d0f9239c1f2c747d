-- What a step of a machine stands for.
use Rattle.std.specs.Prelude.{◌≡◌, Result, Ok, Err}
use Rattle.rv_decode.specs.declared.ends.Trap.{Trap}
use Rattle.rv_decode.specs.declared.instr.Instr.{Instr}
use Rattle.rv_decode.specs.declared.instr.Instr.TheVariants.{Lui, Auipc, Jal, Jalr, Branch, Load, Store, Immediate, ShiftImmediate, Binary, Fence, Ecall, Ebreak}
use Rattle.rv_spec.specs.Machine.{State, Outcome, fetch, x}
use Rattle.rv_spec.specs.Machine as machine
use Rattle.rv_machine.specs.Pages.{byte_on, flags_on}
use Rattle.rv_machine.specs.HartStates.{HartState, state_of}
use Rattle.rv_machine.specs.declared.step.Step.{Step}
use Rattle.rv_machine.specs.declared.step.Step.TheVariants.{Running, Ended}

-- the outcome of an instruction after which a machine stands so
abbrev pub outcome_of : HartState → Step → Outcome
outcome_of h Running = machine.Running (state_of h)
outcome_of h (Ended end) = machine.Ended end (state_of h)

-- A conditional branch and a JALR note an entry of the path, and the call that a7 numbers 64 writes output.
abbrev pub Records : State → Instr → Type 0
Records s (Lui rd upper) = ⊥
Records s (Auipc rd upper) = ⊥
Records s (Jal rd offset) = ⊥
Records s (Jalr rd rs1 offset) = Unit {0}
Records s (Branch test rs1 rs2 offset) = Unit {0}
Records s (Load width rd rs1 offset) = ⊥
Records s (Store width rs1 rs2 offset) = ⊥
Records s (Immediate op rd rs1 immediate) = ⊥
Records s (ShiftImmediate op rd rs1 amount) = ⊥
Records s (Binary op rd rs1 rs2) = ⊥
Records s Fence = ⊥
Records s Ecall = x s 17 ≡ 64
Records s Ebreak = ⊥

-- what was fetched is an instruction that does
abbrev pub RecordsFetched : State → Result Instr Trap → Type 0
RecordsFetched s (Ok instruction) = Records s instruction
RecordsFetched s (Err trap) = ⊥

-- and it comes next
abbrev pub RecordsNext : HartState → Type 0
RecordsNext h = RecordsFetched (state_of h) (fetch (flags_on h.pages) (byte_on h.pages) h.pc)
