use Rattle.std.proofs.Common.{take}
use Rattle.sym_state.specs.Recalling.{Recalls}
use Rattle.sym_state.proofs.recalling.recalled.Given as goal

abbrev pub invariant-loop-at : goal.invariant-loop-at
invariant-loop-at l = Recalls l.fn.terms l.terms l.width l.bits (take l.at l.list.stored) l.fn.before l.loaded
