use Rattle.term_simplify.proofs.Lifts.{lifted_none}
use Rattle.term_simplify.proofs.lifting.lifting_of.Goals as goal

pub returns-then-levels-eq0-clause-none : goal.returns-then-levels-eq0-clause-none
returns-then-levels-eq0-clause-none c = lifted_none c.args.levels _ c.if-levels-eq0.true
