-- A stage of the shifter, as the code holds it. Only private functions speak of this.
use Rattle.circuit_spec.specs.Formulas.{Formula}
use Rattle.circuit_spec.specs.Shifts.{Stage}
use Rattle.bit_blast.specs.declared.shifts.Stage.{Stage as Shifting}

-- a row on its way through the shifter, and the formula so far
abbrev pub stage_of : Shifting → Formula → Stage
stage_of s f = record { row = s.row.items; unit = s.unit; big = s.big; formula = f }
