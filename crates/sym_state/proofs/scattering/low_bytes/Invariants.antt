use Rattle.sym_state.specs.Scattering.{MakesBytes}
use Rattle.sym_state.proofs.scattering.low_bytes.Given as goal

abbrev pub invariant-loop-at : goal.invariant-loop-at
invariant-loop-at l = MakesBytes l.fn.terms l.terms l.value l.at l.bytes.items
