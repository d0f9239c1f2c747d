use Rattle.std.proofs.Common.{drop}
use Rattle.rv_machine.specs.Pages.{filled}
use Rattle.sym_state.specs.Placing.{PutsBytes, bytes_expressed, bytes_worth, inputs_filled}
use Rattle.sym_state.proofs.first.fill.Given as goal

abbrev pub invariant-loop-i : goal.invariant-loop-i
invariant-loop-i l = PutsBytes l.fn.terms l.terms l.fn.memory l.memory
    (inputs_filled l.region.start l.i l.first (bytes_expressed l.fn.terms l.fn.memory))
    (λ input. filled l.region.start l.i (drop l.first input) (bytes_worth l.fn.terms l.fn.memory input))
