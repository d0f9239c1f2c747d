use Rattle.term_simplify.proofs.PartPlans.{HasCome}
use Rattle.term_simplify.proofs.parts.part.Given as goal

abbrev pub invariant-loop-inner : goal.invariant-loop-inner
invariant-loop-inner l = HasCome l.terms l.fn.high l.fn.low l.fn.operand l.span l.above

abbrev pub decreases-loop-inner : goal.decreases-loop-inner
decreases-loop-inner l = l.span.operand
