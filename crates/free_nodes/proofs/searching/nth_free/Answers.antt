use Rattle.free_nodes.proofs.Ways.{IsNthWay-root, IsNthWay-left, IsNthWay-right, IsNthWay-end}
use Rattle.free_nodes.proofs.searching.nth_free.Goals as goal

pub loop-at-init : goal.loop-at-init
loop-at-init c = IsNthWay-root c.args.entries.now c.args.before c.requires.tree c.requires.there

pub loop-at-preserved-then-before-left : goal.loop-at-preserved-then-before-left
loop-at-preserved-then-before-left c =
    IsNthWay-right c.args.entries.now c.loop-at.at c.loop-at.before c.args.before c.requires.tree c.loop-at.invariant c.loop-at-test.true c.if-before-left.true

pub loop-at-preserved : goal.loop-at-preserved
loop-at-preserved c =
    IsNthWay-left c.args.entries.now c.loop-at.at c.loop-at.before c.args.before c.requires.tree c.loop-at.invariant c.loop-at-test.true c.if-before-left.false

pub returns-clause-before : goal.returns-clause-before
returns-clause-before c =
    IsNthWay-end c.args.entries.now c.loop-at.at c.loop-at.before c.args.before c.requires.tree c.loop-at.invariant c.loop-at-test.false
