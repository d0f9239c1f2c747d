use Rattle.std.proofs.Common.{sym, ◌∙◌}
use Rattle.std.proofs.lemmas.Bool.{false≢true}
use Rattle.cert_query.specs.Refuting.{IsRefutedBy}
use Rattle.cert_audit.specs.ProofFaults.{asks_more, in_clauses, in_question}
use Rattle.cert_audit.specs.Shown.{IsShownEmpty}
use Rattle.cert_audit.proofs.Showing.{fault_ok, refuted_shown, taken_ok}
use Rattle.cert_audit.proofs.proof.take_refuted.Goals as goal

pub returns-then-branch-clause-taken : goal.returns-then-branch-clause-taken
returns-then-branch-clause-taken c =
    let s = c.args.run.now in
    let query = c.in-Ok.question.query in
    let middle = c.in-Ok.question.rest.now in
    let asked = rw c.in-Ok.is at c.in_ok-question.ensures.taken in
    taken_ok c.take_refutation.result (λ rest. IsRefutedBy query middle rest.now) (λ rest. IsShownEmpty s c.args.lines.now rest.now)
    c.take_refutation.ensures.taken
    (λ rest refuted. refuted_shown s query c.args.lines.now middle rest.now asked refuted (c.in_ok-is_of_run.ensures.none c.if-branch.true refuted.unsatisfiable))

pub returns-in-Err-clause-cause : goal.returns-in-Err-clause-cause
returns-in-Err-clause-cause c = in_question (rw c.in-Err.is at c.in_ok-question.ensures.cause)

pub returns-then-branch-clause-cause : goal.returns-then-branch-clause-cause
returns-then-branch-clause-cause c =
    let query = c.in-Ok.question.query in
    let asked = rw c.in-Ok.is at c.in_ok-question.ensures.taken in
    let less = c.in_ok-is_of_run.ensures.less.0 c.if-branch.true in
    fault_ok c.take_refutation.result _ _
    (λ fault refused. in_clauses query c.is_formed.ensures less (record { rest = c.in-Ok.question.rest.now; split = asked; here = refused }))
    c.take_refutation.ensures.cause

pub returns-clause-cause : goal.returns-clause-cause
returns-clause-cause c =
    let asked = rw c.in-Ok.is at c.in_ok-question.ensures.taken in
    asks_more c.in-Ok.question.query c.in-Ok.question.rest.now c.is_formed.ensures asked
    (λ less. false≢true (sym c.if-branch.false ∙ c.in_ok-is_of_run.ensures.less.1 less)) c.at.ensures
