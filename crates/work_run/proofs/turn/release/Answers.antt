use Rattle.std.proofs.Common.{true, refl}
use Rattle.turn_lock.specs.Passes.{known}
use Rattle.fork_tree.specs.Calls.{release_event}
use Rattle.fork_tree.specs.Trees.{covers_at}
use Rattle.fork_tree.proofs.Noting.{by_nodes}
use Rattle.work_run.proofs.Handing.{gives-events, handed-by, held-by, turn-ends, turn-later, turned}
use Rattle.work_run.proofs.turn.release.Goals as goal

pub release-requires-clause-held : goal.release-requires-clause-held
release-requires-clause-held g c =
    let v = known c.args.pass.now in
    let s = c.take-tree.result.tree.story in
    let follows = c.take-tree.ensures.follows in
    let handed = handed-by v s c.requires.rest.1 follows.nodes follows.events follows.own in
    let rules = g.W.Work.rules c.take-tree.result.tree.worker in
    held-by (covers_at g.W.State.Placed.place g.W.Leaf.Placed.place)
    (by_nodes rules g.W.State.Placed.place g.W.Leaf.Placed.place) rules.nodes v s c.number-by.result
    c.args.node c.number-by.ensures c.is_whole.ensures.replays handed c.requires.holds

pub give-requires-clause-events : goal.give-requires-clause-events
give-requires-clause-events g c =
    gives-events (known c.args.pass.now) (known c.take-tree.new.pass) c.take-tree.result.tree.story
    c.release.new.self.tree.story c.number-by.result c.take-tree.ensures.taken c.number-by.ensures
    c.release.ensures.grows

pub returns-clause-later : goal.returns-clause-later
returns-clause-later g c =
    let take = c.take-tree in
    let turn = turned (known c.args.pass.now) _ _ take.result c.release.new.self _
    c.requires.rest.1 take.ensures.follows take.ensures.taken c.give.ensures.given
    c.number-by.ensures c.release.ensures.grows in
    turn-later _ _ _ _ turn

pub returns-clause-own : goal.returns-clause-own
returns-clause-own g c =
    let take = c.take-tree in
    let turn = turned (known c.args.pass.now) _ _ take.result c.release.new.self _
    c.requires.rest.1 take.ensures.follows take.ensures.taken c.give.ensures.given
    c.number-by.ensures c.release.ensures.grows in
    turn-ends _ _ _ _ turn true c.args.node (release_event c.number-by.result c.args.node)
    c.release.ensures.story refl refl refl
