use Rattle.cert_query.proofs.Spending.{LearntSoFar}
use Rattle.cert_query.specs.Variables.{are_noted}
use Rattle.cert_query.proofs.spent_log.take_log.Given as goal

abbrev pub invariant-loop : goal.invariant-loop
invariant-loop l = LearntSoFar (are_noted l.seen) l.initial.checker l.checker l.fn.lines l.rest l.log l.counter
