-- One step of the definitions.
use Rattle.std.proofs.Common.{◌≡◌, ap}
use Rattle.std.specs.Prelude.{Ok, Err}
use Rattle.rv_decode.specs.declared.ends.End.TheVariants.{Trapped}
use Rattle.rv_decode.specs.declared.ends.Trap.{Trap}
use Rattle.rv_decode.specs.declared.instr.Instr.{Instr}
use Rattle.rv_spec.specs.Machine.{State, Ended, next, execute, execute_fetched, fetch}

pub next_executes : (s : State) (i : Instr) → fetch s.flags s.byte s.pc ≡ Ok i → next s ≡ execute s i
unfolding next
next_executes s i h = ap (execute_fetched s) h

pub next_traps : (s : State) (trap : Trap) → fetch s.flags s.byte s.pc ≡ Err trap → next s ≡ Ended (Trapped trap) s
unfolding next
next_traps s trap h = ap (execute_fetched s) h
