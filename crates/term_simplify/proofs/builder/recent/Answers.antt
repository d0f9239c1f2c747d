use Rattle.term_simplify.proofs.Building.{Makes-standing}
use Rattle.term_simplify.proofs.builder.recent.Goals as goal

pub returns-then-is_same : goal.returns-then-is_same
returns-then-is_same c = Makes-standing c.args.terms.now c.loop-id.id c.node.result c.args.node.now
    c.node.ensures.fit c.node.ensures.is (c.is_same.ensures.0 c.if-is_same.true)
