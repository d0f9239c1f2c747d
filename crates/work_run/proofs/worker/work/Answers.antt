use Rattle.std.proofs.Common.{refl}
use Rattle.turn_lock.specs.Passes.{known}
use Rattle.work_run.proofs.Rounds.{carried, later-after, stopped-by}
use Rattle.work_run.proofs.Turning.{goes-nowhere}
use Rattle.work_run.proofs.worker.work.Goals as goal

pub loop-init : goal.loop-init
loop-init g c = record {
  lock = c.in-Ok.ensures.lock;
  later = c.in-Ok.ensures.later;
  last = (
    (known c.args.pass.now).own,
    goes-nowhere (known c.args.pass.now).own (known c.args.pass.now).own refl,
    c.in-Ok.ensures.ok,
  );
}

pub loop-preserved : goal.loop-preserved
loop-preserved g c = record {
  lock = c.work_once.ensures.lock;
  later = later-after (known c.args.pass.now) (known c.loop.pass) (known c.work_once.new.pass)
      c.loop.invariant.later c.work_once.ensures.later;
  last = carried g.W.Work.rules (known c.args.pass.now) (known c.loop.pass)
      (known c.work_once.new.pass) c.loop.last c.in-Ok-work_once.next c.loop.invariant.later
      c.in-Ok-work_once.ensures.next c.loop.invariant.last;
}

pub returns-in-Err-work_once-clause-turns : goal.returns-in-Err-work_once-clause-turns
returns-in-Err-work_once-clause-turns g c =
    stopped-by g.W.Work.rules (known c.args.pass.now) (known c.loop.pass)
    (known c.work_once.new.pass) c.loop.last c.loop.invariant.later
    c.in-Err-work_once.ensures.turns c.loop.invariant.last
