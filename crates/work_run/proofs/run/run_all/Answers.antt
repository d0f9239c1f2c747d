use Rattle.std.proofs.Common.{◌≡◌, ◌+◌, ◌-◌, arith}
use Rattle.turn_lock.specs.Passes.{known}
use Rattle.work_run.proofs.Closing.{closed_few, closed_goes, closed_none, closed_releases}
use Rattle.work_run.proofs.run.run_all.Goals as goal

pub returns-clause-goes : goal.returns-clause-goes
returns-clause-goes g c =
    closed_goes c.close-tree.result.tree.story (known c.in_ok-lock.first)
    (known c.run_workers-first.result) (1 + (c.args.workers - 1)) c.run_workers-first.ensures.done
    c.args.tree.worker c.args.tree.story c.in_ok-lock.ensures.pass
    (c.close-tree.ensures.seen_nodes, c.close-tree.ensures.seen_events)

pub returns-clause-few : goal.returns-clause-few
returns-clause-few g c =
    let all : 1 + (c.args.workers - 1) ≡ c.args.workers = omega (arith, c.requires.some) in
    closed_few c.close-tree.result.tree.story (known c.in_ok-lock.first)
    (known c.run_workers-first.result) (1 + (c.args.workers - 1)) c.run_workers-first.ensures.done
    c.args.workers all c.close-tree.ensures.events

pub returns-clause-none_held : goal.returns-clause-none_held
returns-clause-none_held g c =
    closed_none c.close-tree.result.tree.story (known c.in_ok-lock.first)
    (known c.run_workers-first.result) (1 + (c.args.workers - 1)) c.run_workers-first.ensures.done
    c.close-tree.ensures.events

pub returns-clause-releases : goal.returns-clause-releases
returns-clause-releases g c =
    closed_releases c.close-tree.result.tree.story (known c.in_ok-lock.first)
    (known c.run_workers-first.result) (1 + (c.args.workers - 1)) c.run_workers-first.ensures.done
    c.close-tree.ensures.events
