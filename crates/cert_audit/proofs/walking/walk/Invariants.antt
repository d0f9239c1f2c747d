use Rattle.std.proofs.Common.{length}
use Rattle.cert_audit.specs.Walks.{IsWalked}
use Rattle.cert_audit.proofs.walking.walk.Given as goal

-- so far it has come
abbrev pub invariant-loop-todo : goal.invariant-loop-todo
invariant-loop-todo l = record {
  walked : IsWalked l.program l.budgets l.lines l.stack.items l.rest l.tally;
}

abbrev pub decreases-loop-todo : goal.decreases-loop-todo
decreases-loop-todo l = length l.rest
