use Rattle.turn_lock.specs.Passes.{IsPassOf, known}
use Rattle.work_run.specs.Seen.{GoesOnToClaim, IsLater}
use Rattle.work_run.proofs.worker.work.Given as goal

abbrev pub invariant-loop : goal.invariant-loop
invariant-loop g l = record {
  lock : IsPassOf l.lock l.pass;
  later : IsLater (known l.fn.pass) (known l.pass);
  last : GoesOnToClaim (g.W.Work.rules (known l.fn.pass).fixed) (known l.fn.pass).own (known l.pass)
      l.last;
}
