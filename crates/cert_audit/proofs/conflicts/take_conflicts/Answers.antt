use Rattle.cert_audit.proofs.Asking.{taken_conflicts}
use Rattle.cert_audit.proofs.conflicts.take_conflicts.Goals as goal

pub returns-clause-leaf : goal.returns-clause-leaf
returns-clause-leaf c = λ budgets enough.
    taken_conflicts budgets c.args.conflicts c.args.asked.now c.args.lines.now c.in-Ok.taken.rest.now c.in-Ok.taken.learnt c.in_ok-leaf.leaf enough
    (rw c.in-Ok.is at c.in_ok-taken.ensures.learnt) c.in_ok-leaf.ensures.sample c.in_ok-leaf.ensures.leaf

pub returns-in-Err-clause-cause : goal.returns-in-Err-clause-cause
returns-in-Err-clause-cause c = rw c.in-Err.is at c.in_ok-taken.ensures.cause
