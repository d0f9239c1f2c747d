-- That an instruction shifts by less than 32 has one proof at most, so that a kept instruction can carry it.
use Rattle.std.proofs.Common.{Some, None}
use Rattle.std.specs.Prelude.{Option, IfSome}
use Rattle.std.specs.Coded.{le_prop}
use Rattle.rv_decode.specs.Instructions.{ShiftsBelow32}
use Rattle.rv_decode.specs.declared.instr.Instr.{Instr}
use Rattle.rv_decode.specs.declared.instr.Instr.TheVariants.{Lui, Auipc, Jal, Jalr, Branch, Load, Store, Immediate, ShiftImmediate, Binary, Fence, Ecall, Ebreak}

pub shifts_prop : (instr : Option Instr) → IsProp (IfSome instr ShiftsBelow32)
shifts_prop None = hlevel le_prop
shifts_prop (Some (Lui rd upper)) = hlevel le_prop
shifts_prop (Some (Auipc rd upper)) = hlevel le_prop
shifts_prop (Some (Jal rd offset)) = hlevel le_prop
shifts_prop (Some (Jalr rd rs1 offset)) = hlevel le_prop
shifts_prop (Some (Branch test rs1 rs2 offset)) = hlevel le_prop
shifts_prop (Some (Load width rd rs1 offset)) = hlevel le_prop
shifts_prop (Some (Store width rs1 rs2 offset)) = hlevel le_prop
shifts_prop (Some (Immediate op rd rs1 immediate)) = hlevel le_prop
shifts_prop (Some (ShiftImmediate op rd rs1 amount)) = hlevel le_prop
shifts_prop (Some (Binary op rd rs1 rs2)) = hlevel le_prop
shifts_prop (Some Fence) = hlevel le_prop
shifts_prop (Some Ecall) = hlevel le_prop
shifts_prop (Some Ebreak) = hlevel le_prop
