use Rattle.term_simplify.proofs.IntervalRules.{ends_in}
use Rattle.term_simplify.proofs.intervals.interval_at.Goals as goal

pub returns-clause-some : goal.returns-clause-some
returns-clause-some c = λ g is number. ends_in g c.args.o c.args.y c.negated.result c.apply.result is number c.negated.ensures c.apply.ensures
