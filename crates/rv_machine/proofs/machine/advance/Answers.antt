use Rattle.std.proofs.Common.{sym, rules}
use Rattle.rv_machine.specs.HartStates.{state_of}
use Rattle.rv_machine.proofs.Stepping.{next_executes, next_traps}
use Rattle.rv_machine.proofs.machine.advance.Goals as goal

pub returns-in-Ok-clause-ok : goal.returns-in-Ok-clause-ok
returns-in-Ok-clause-ok c =
    rw (next_executes (state_of c.args.hart.now) c.in-Ok.instr (sym c.in-Ok.ensures.value)) (rw c.fetch.ensures.same at c.execute.ensures.ok)

pub returns-in-Err-clause-ok : goal.returns-in-Err-clause-ok
returns-in-Err-clause-ok c =
    rw (next_traps (state_of c.args.hart.now) c.in-Err.trap (sym c.in-Err.ensures.value), c.trapped.ensures, c.fetch.ensures.same) (search rules)
