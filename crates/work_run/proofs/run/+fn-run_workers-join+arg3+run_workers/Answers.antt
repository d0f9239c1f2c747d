use Rattle.std.proofs.Common.{◌≡◌, ◌+◌, ◌-◌, rules}
use Rattle.turn_lock.specs.Passes.{known}
use Rattle.work_run.specs.Runs.{HasRun, HasWorked}
use Rattle.work_run.proofs.Running.{run_joined}
use Rattle.work_run.proofs.run.+fn-run_workers-join+arg3+run_workers.Goals as goal

pub returns-clause-done : goal.returns-clause-done
returns-clause-done g t c =
    let worked : HasWorked (known c.split-pass.result) (known c.join-pass.result.0) =
    search rules in
    let run : HasRun (c.args.next + 1) ((c.args.next + 1) + (c.args.more - 1))
    (known c.split-pass.new.pass) (known c.join-pass.result.1) = search rules in
    let sum : (c.args.next + 1) + (c.args.more - 1) ≡ c.args.next + c.args.more = search rules in
    run_joined c.args.worker.now c.args.next ((c.args.next + 1) + (c.args.more - 1))
    (c.args.next + c.args.more) (known c.args.first) (known c.split-pass.new.pass)
    (known c.split-pass.result) (known c.join-pass.result.1) (known c.join-pass.result.0)
    (known c.join.new.pass) c.split-pass.ensures.pass c.split-pass.ensures.new c.join.ensures.pass
    c.requires.may worked run sum
