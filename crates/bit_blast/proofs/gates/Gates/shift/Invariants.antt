use Rattle.std.proofs.Common.{◌≡◌, false, take, fold, length}
use Rattle.circuit_spec.specs.Formulas.{constant}
use Rattle.circuit_spec.specs.Shifts.{next_stage}
use Rattle.bit_blast.specs.Staging.{stage_of}
use Rattle.bit_blast.proofs.gates.Gates.shift.Given as goal

abbrev pub invariant-loop-i : goal.invariant-loop-i
invariant-loop-i l = stage_of l.stage l.self ≡ fold (next_stage l.direction l.fill (length l.a)) (record { row = l.a; unit = 1; big = constant false; formula = l.fn.self }) (take l.i l.b)
