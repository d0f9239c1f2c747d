use Rattle.turn_lock.specs.Passes.{known}
use Rattle.work_run.proofs.Rounds.{worked-carries, worked-stops}
use Rattle.work_run.proofs.round.work_once.Goals as goal

pub returns-in-Claimed-clause-next : goal.returns-in-Claimed-clause-next
returns-in-Claimed-clause-next g c =
    worked-carries (g.W.Work.rules (known c.args.pass.now).fixed) (known c.args.pass.now)
    (known c.work_claim.new.pass) c.args.last c.in-Claimed.node c.in-Claimed.state c.in-Claimed.is
    c.work_claim.result c.work_claim.ensures.next

pub returns-in-Claimed-clause-turns : goal.returns-in-Claimed-clause-turns
returns-in-Claimed-clause-turns g c =
    worked-stops (g.W.Work.rules (known c.args.pass.now).fixed) (known c.args.pass.now)
    (known c.work_claim.new.pass) c.args.last c.in-Claimed.node c.in-Claimed.state c.in-Claimed.is
    c.work_claim.result c.work_claim.ensures.ended
