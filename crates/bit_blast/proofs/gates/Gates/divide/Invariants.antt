use Rattle.std.proofs.Common.{◌≡◌, ◌∷◌, ◌++◌, [], false, drop, length, reverse}
use Rattle.circuit_spec.specs.Formulas.{constant}
use Rattle.circuit_spec.specs.Rows.{zeros}
use Rattle.circuit_spec.specs.Products.{division}
use Rattle.bit_blast.proofs.gates.Gates.divide.Given as goal

abbrev pub invariant-loop-i : goal.invariant-loop-i
invariant-loop-i l = record { quotient = reverse l.quotient.items; rest = l.rest.items; formula = l.self }
    ≡ division (drop l.i l.a) l.divisor.items (record { quotient = []; rest = zeros (length l.b) ++ constant false ∷ []; formula = l.fn.self })
