use Rattle.term_simplify.proofs.DivisionSteps.{not_filled}
use Rattle.term_simplify.proofs.builder.Builder.filled.Goals as goal

pub returns-then-by-eq0-clause-ok : goal.returns-then-by-eq0-clause-ok
returns-then-by-eq0-clause-ok c = not_filled c.args.self.now c.args.a c.args.by c.if-by-eq0.true c.requires.some
