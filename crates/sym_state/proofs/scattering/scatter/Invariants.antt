use Rattle.sym_state.specs.Scattering.{Scatters}
use Rattle.sym_state.proofs.scattering.scatter.Given as goal

abbrev pub invariant-loop-offset : goal.invariant-loop-offset
invariant-loop-offset l =
    Scatters l.fn.terms l.terms l.fn.memory l.memory l.along.width l.along.page l.along.way l.bytes l.offset
