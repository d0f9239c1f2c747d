use Rattle.term_simplify.proofs.Telling.{HasPeeled}
use Rattle.term_simplify.proofs.equalities.peeled.Given as goal

abbrev pub invariant-loop-inner : goal.invariant-loop-inner
invariant-loop-inner l = HasPeeled l.terms l.fn.e (record { term = l.term; number = l.number })

abbrev pub decreases-loop-inner : goal.decreases-loop-inner
decreases-loop-inner l = l.term
