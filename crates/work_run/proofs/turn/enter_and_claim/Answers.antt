use Rattle.turn_lock.specs.Passes.{known}
use Rattle.fork_tree.specs.Trees.{covers_at}
use Rattle.fork_tree.proofs.Noting.{by_nodes}
use Rattle.work_run.specs.Entering.{IsNextClaim}
use Rattle.work_run.proofs.Entries.{claim_err, claim_ok}
use Rattle.work_run.proofs.Handing.{ended-all, gives-events, handed-by, held-by, next-all, result-handed, turn-later, turned}
use Rattle.work_run.proofs.turn.enter_and_claim.Goals as goal

pub enter_and_claim-entered-requires-clause-held : goal.enter_and_claim-entered-requires-clause-held
enter_and_claim-entered-requires-clause-held g c =
    let v = known c.args.pass.now in
    let s = c.take-tree.result.tree.story in
    let follows = c.take-tree.ensures.follows in
    let handed = handed-by v s c.requires.rest.1 follows.nodes follows.events follows.own in
    let rules = g.W.Work.rules c.take-tree.result.tree.worker in
    held-by (covers_at g.W.State.Placed.place g.W.Leaf.Placed.place)
    (by_nodes rules g.W.State.Placed.place g.W.Leaf.Placed.place) rules.nodes v s c.number-by.result
    c.args.node c.number-by.ensures c.is_whole.ensures.replays handed c.requires.worked.0

pub enter_and_claim-entered-requires-clause-worked : goal.enter_and_claim-entered-requires-clause-worked
enter_and_claim-entered-requires-clause-worked g c =
    let v = known c.args.pass.now in
    let s = c.take-tree.result.tree.story in
    let follows = c.take-tree.ensures.follows in
    let handed = handed-by v s c.requires.rest.1 follows.nodes follows.events follows.own in
    let rules = g.W.Work.rules c.take-tree.result.tree.worker in
    result-handed g.W.Work.rules g.W.State.Placed.place g.W.Leaf.Placed.place
    (by_nodes rules g.W.State.Placed.place g.W.Leaf.Placed.place) rules.nodes v s c.args.node
    c.args.parts c.take-tree.result.tree.worker follows.fixed handed c.is_whole.ensures.replays
    c.requires.worked

pub give-requires-clause-events : goal.give-requires-clause-events
give-requires-clause-events g c =
    gives-events (known c.args.pass.now) (known c.take-tree.new.pass) c.take-tree.result.tree.story
    c.enter_and_claim-entered.new.self.tree.story c.number-by.result c.take-tree.ensures.taken
    c.number-by.ensures
    c.enter_and_claim-entered.ensures.grows

pub returns-clause-later : goal.returns-clause-later
returns-clause-later g c =
    let take = c.take-tree in
    let turn = turned (known c.args.pass.now) _ _ take.result c.enter_and_claim-entered.new.self _
    c.requires.rest.1 take.ensures.follows take.ensures.taken c.give.ensures.given
    c.number-by.ensures c.enter_and_claim-entered.ensures.grows in
    turn-later _ _ _ _ turn

pub returns-clause-ok : goal.returns-clause-ok
returns-clause-ok g c =
    let take = c.take-tree in
    let turn = turned (known c.args.pass.now) _ _ take.result c.enter_and_claim-entered.new.self _
    c.requires.rest.1 take.ensures.follows take.ensures.taken c.give.ensures.given
    c.number-by.ensures c.enter_and_claim-entered.ensures.grows in
    let claimed = c.claim_of-claimed in
    next-all g.W.Work.rules _ _ _ _ turn take.result.tree.worker c.number-by.result c.args.node
    claimed.result take.ensures.follows.fixed c.number-by.ensures
    (claim_ok (IsNextClaim (g.W.Work.rules take.result.tree.worker).IsWell c.number-by.result
    c.args.node take.result.tree.story c.enter_and_claim-entered.new.self.tree.story)
    c.enter_and_claim-entered.result claimed.result claimed.ensures
    c.enter_and_claim-entered.ensures.ok)

pub returns-clause-err : goal.returns-clause-err
returns-clause-err g c =
    let take = c.take-tree in
    let turn = turned (known c.args.pass.now) _ _ take.result c.enter_and_claim-entered.new.self _
    c.requires.rest.1 take.ensures.follows take.ensures.taken c.give.ensures.given
    c.number-by.ensures c.enter_and_claim-entered.ensures.grows in
    let claimed = c.claim_of-claimed in
    ended-all _ _ _ _ turn c.number-by.result c.args.node claimed.result
    (claim_err _ c.enter_and_claim-entered.result claimed.result claimed.ensures
    c.enter_and_claim-entered.ensures.err)
