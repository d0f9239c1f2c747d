use Rattle.std.proofs.Common.{sym, ◌∙◌}
use Rattle.std.proofs.lemmas.Bool.{false≢true}
use Rattle.cert_audit.specs.LeafFaults.{asks_another, asks_no_question, is_not_open}
use Rattle.cert_audit.proofs.Asking.{learnt_ok}
use Rattle.cert_audit.proofs.Showing.{fault_ok}
use Rattle.cert_audit.proofs.conflicts.take_learnt.Goals as goal

pub returns-clause-learnt : goal.returns-clause-learnt
returns-clause-learnt c =
    learnt_ok c.take_log.result _ c.in-Some.part c.in-Ok.question.query c.args.conflicts c.args.lines.now c.in-Ok.question.rest.now
    (rw c.in-Some.is at c.in_ok-part.ensures) (c.in_ok-ask_the_same.ensures.0 c.if-not-branch.false) c.is_formed.ensures.dag c.is_formed.ensures.bits
    (rw c.in-Ok.is at c.in_ok-question.ensures.taken) c.take_log.ensures.question c.take_log.ensures.spent

pub returns-in-Err-clause-cause : goal.returns-in-Err-clause-cause
returns-in-Err-clause-cause c = asks_no_question (rw c.in-Err.is at c.in_ok-question.ensures.cause)

pub returns-then-not-branch-clause-cause : goal.returns-then-not-branch-clause-cause
returns-then-not-branch-clause-cause c =
    let last = rw c.in-Some.is at c.in_ok-part.ensures in
    let asked = rw c.in-Ok.is at c.in_ok-question.ensures.taken in
    asks_another c.in-Some.part c.in-Ok.question.query c.in-Ok.question.rest.now last c.is_formed.ensures asked
    (λ same. false≢true (sym c.if-not-branch.true ∙ c.in_ok-ask_the_same.ensures.1 same)) c.at-then-not-branch.ensures

pub returns-clause-cause : goal.returns-clause-cause
returns-clause-cause c =
    let last = rw c.in-Some.is at c.in_ok-part.ensures in
    let asked = rw c.in-Ok.is at c.in_ok-question.ensures.taken in
    let same = c.in_ok-ask_the_same.ensures.0 c.if-not-branch.false in
    fault_ok c.take_log.result _ _
    (λ fault refused. is_not_open c.in-Some.part c.in-Ok.question.query last c.is_formed.ensures same
    (record { rest = c.in-Ok.question.rest.now; split = asked; here = refused }))
    c.take_log.ensures.cause
