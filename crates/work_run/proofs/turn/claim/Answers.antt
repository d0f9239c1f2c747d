use Rattle.turn_lock.specs.Passes.{known}
use Rattle.work_run.proofs.Handing.{claims-all, gives-events, nothing-all, turn-later, turned}
use Rattle.work_run.proofs.turn.claim.Goals as goal

pub give-requires-clause-events : goal.give-requires-clause-events
give-requires-clause-events g c =
    gives-events (known c.args.pass.now) (known c.take-tree.new.pass) c.take-tree.result.tree.story
    c.claim-claimed.new.self.tree.story c.number-by.result c.take-tree.ensures.taken
    c.number-by.ensures
    c.claim-claimed.ensures.grows

pub returns-clause-later : goal.returns-clause-later
returns-clause-later g c =
    let take = c.take-tree in
    let turn = turned (known c.args.pass.now) _ _ take.result c.claim-claimed.new.self _
    c.requires.rest.1 take.ensures.follows take.ensures.taken c.give.ensures.given
    c.number-by.ensures c.claim-claimed.ensures.grows in
    turn-later _ _ _ _ turn

pub returns-clause-ok : goal.returns-clause-ok
returns-clause-ok g c =
    let take = c.take-tree in
    let turn = turned (known c.args.pass.now) _ _ take.result c.claim-claimed.new.self _
    c.requires.rest.1 take.ensures.follows take.ensures.taken c.give.ensures.given
    c.number-by.ensures c.claim-claimed.ensures.grows in
    claims-all g.W.Work.rules _ _ _ _ turn take.result.tree.worker c.number-by.result
    c.claim-claimed.result take.ensures.follows.fixed c.number-by.ensures c.claim-claimed.ensures.ok

pub returns-clause-err : goal.returns-clause-err
returns-clause-err g c =
    let take = c.take-tree in
    let turn = turned (known c.args.pass.now) _ _ take.result c.claim-claimed.new.self _
    c.requires.rest.1 take.ensures.follows take.ensures.taken c.give.ensures.given
    c.number-by.ensures c.claim-claimed.ensures.grows in
    nothing-all _ _ _ _ turn c.claim-claimed.result c.claim-claimed.ensures.err
