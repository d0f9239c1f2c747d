use Rattle.sym_machine.specs.Calls.{WritesOutput}
use Rattle.sym_machine.proofs.call.emit.Given as goal

abbrev pub invariant-loop-i : goal.invariant-loop-i
invariant-loop-i l = record {
  written : WritesOutput l.fn.state l.state l.start l.i;
}
