use Rattle.fork_tree.proofs.Entering.{grows-none}
use Rattle.work_run.proofs.Entries.{claim-grows}
use Rattle.work_run.proofs.turn_tree.TurnTree.claim.Goals as goal

pub returns-in_err-reserve-clause-grows : goal.returns-in_err-reserve-clause-grows
returns-in_err-reserve-clause-grows g c =
    grows-none c.args.by c.args.self.now.tree.story c.reserve.new.self.story c.reserve.ensures.story

pub returns-clause-grows : goal.returns-clause-grows
returns-clause-grows g c =
    claim-grows (g.W.Work.rules c.reserve.new.self.worker).IsWell c.args.self.now.tree.story
    c.reserve.new.self.story c.claim.new.self.story c.args.by c.claim.result
    c.reserve.ensures.story c.claim.ensures.ok c.claim.ensures.err
