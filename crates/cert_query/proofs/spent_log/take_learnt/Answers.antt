use Rattle.std.proofs.Common.{◌≡◌, false, length}
use Rattle.cert_query.specs.ClauseFaults.{IsLearntFault}
use Rattle.cert_query.specs.ClauseLines.{clauses_at}
use Rattle.cert_query.specs.Spending.{HasLearntAll, are_learnt}
use Rattle.cert_query.specs.Variables.{are_noted}
use Rattle.cert_query.proofs.Spending.{fault_by_noting, learnt_by_noting, refused_by_noting}
use Rattle.cert_query.proofs.spent_log.take_learnt.Goals as goal

pub returns-in-Ok-clause-taken : goal.returns-in-Ok-clause-taken
returns-in-Ok-clause-taken c =
    let has : HasLearntAll (are_noted c.deref.result.now) c.in_ok-checker.checker c.args.budget c.args.lines.now c.take_log.new.log c.in-Ok.rest.now = rw c.in-Ok.is at c.in_ok-rest.ensures.taken in
    learnt_by_noting c.args.formula.now c.in_ok-checker.checker c.deref.result.now c.in_ok-seen.seen.items c.args.budget c.args.lines.now c.take_log.new.log c.in-Ok.rest.now
    c.deref.ensures.value c.in_ok-seen.ensures c.in_ok-checker.ensures has

pub returns-clause-refused : goal.returns-clause-refused
returns-clause-refused c =
    let log = clauses_at c.args.lines.now in
    let refused : length (clauses_at c.args.lines.now) ≡ c.args.budget → are_learnt (are_noted c.deref.result.now) c.in_ok-checker.checker (clauses_at c.args.lines.now) ≡ false
    = rw c.in-Err.is at c.in_ok-rest.ensures.refused in
    λ whole. refused_by_noting c.args.formula.now c.in_ok-checker.checker c.deref.result.now c.in_ok-seen.seen.items log
    c.deref.ensures.value c.in_ok-seen.ensures c.in_ok-checker.ensures (refused whole)

pub returns-clause-cause : goal.returns-clause-cause
returns-clause-cause c =
    let refused : IsLearntFault (are_noted c.deref.result.now) c.in_ok-checker.checker c.args.budget c.args.lines.now c.in-Err.fault = rw c.in-Err.is at c.in_ok-rest.ensures.cause in
    fault_by_noting c.args.formula.now c.in_ok-checker.checker c.deref.result.now c.in_ok-seen.seen.items c.args.budget c.args.lines.now c.in-Err.fault
    c.deref.ensures.value c.in_ok-seen.ensures c.in_ok-checker.ensures refused
