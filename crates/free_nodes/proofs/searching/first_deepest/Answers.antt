use Rattle.std.proofs.Common.{◌<◌, ◌*◌, arith}
use Rattle.free_nodes.specs.Entries.{sum_at}
use Rattle.free_nodes.proofs.Ways.{IsDeepestWay-root, IsDeepestWay-left, IsDeepestWay-right, IsDeepestWay-end}
use Rattle.free_nodes.proofs.searching.first_deepest.Goals as goal
use Rattle.free_nodes.proofs.searching.first_deepest.Goals.{then-left-eq0-via-then-left-eq0, then-left-eq0-via-else-left-eq0+then-left-deepest}

pub loop-at-init : goal.loop-at-init
loop-at-init c = IsDeepestWay-root c.args.entries.now c.requires.tree c.requires.there

pub loop-at-preserved-in-loop-at : goal.loop-at-preserved-in-loop-at
loop-at-preserved-in-loop-at c =
    let less : 0 < (sum_at c.args.entries.now (c.loop-at.at * 2)).free → (sum_at c.args.entries.now (c.loop-at.at * 2)).deepest < (sum_at c.args.entries.now 1).deepest =
    elim c.then-left-eq0.branch [
      | then-left-eq0-via-then-left-eq0 w ↦ λ some. absurd (omega (arith, some, w.if-left-eq0.true))
      | then-left-eq0-via-else-left-eq0+then-left-deepest w ↦ λ _. w.if-left-deepest.true
    ] in
    IsDeepestWay-right c.args.entries.now c.loop-at.at _ c.requires.tree c.loop-at.invariant c.loop-at-test.true less

pub loop-at-preserved : goal.loop-at-preserved
loop-at-preserved c =
    IsDeepestWay-left c.args.entries.now c.loop-at.at _ c.requires.tree c.loop-at.invariant c.loop-at-test.true (omega (arith, c.if-left-eq0.false)) c.if-left-deepest.false

pub returns-clause-before : goal.returns-clause-before
returns-clause-before c =
    IsDeepestWay-end c.args.entries.now c.loop-at.at _ c.loop-at.invariant c.loop-at-test.false
