use Rattle.turn_lock.specs.Passes.{known}
use Rattle.work_run.proofs.Running.{has_worked}
use Rattle.work_run.proofs.run.work_alone.Goals as goal

pub returns-clause-done : goal.returns-clause-done
returns-clause-done g c =
    has_worked c.args.worker.now (known c.args.pass) (known c.work.new.pass) c.requires.may
    (record { same = c.work.ensures.same; turn = c.work.ensures.turn; seen = c.work.ensures.seen })
    c.work.ensures.turns
