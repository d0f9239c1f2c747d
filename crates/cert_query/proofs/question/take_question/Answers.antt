use Rattle.cert_query.specs.QuestionFaults.{in_heading}
use Rattle.cert_query.proofs.Faulted.{fault_in_body}
use Rattle.cert_query.proofs.Lines.{whole_question}
use Rattle.cert_query.proofs.Taken.{of_each, of_fault}
use Rattle.cert_query.proofs.question.take_question.Goals as goal

pub returns-in-Ok-clause-taken : goal.returns-in-Ok-clause-taken
returns-in-Ok-clause-taken c =
    of_each _ _ _ _ c.take_body.result
    (λ q inputs nodes body. whole_question c.args.lines.now c.in-Ok.rest.now q.rest.now c.in-Ok.inputs c.in-Ok.nodes q.query c.in-Ok.ensures.taken inputs nodes body)
    c.take_body.ensures.inputs c.take_body.ensures.nodes c.take_body.ensures.taken

pub returns-in-Ok-clause-cause : goal.returns-in-Ok-clause-cause
returns-in-Ok-clause-cause c =
    of_fault _ _ c.take_body.result
    (λ fault refused. fault_in_body c.in-Ok.inputs c.in-Ok.nodes c.args.lines.now c.in-Ok.rest.now fault c.in-Ok.ensures.taken refused)
    c.take_body.ensures.cause

pub returns-in-Err-clause-cause : goal.returns-in-Err-clause-cause
returns-in-Err-clause-cause c = in_heading c.in-Err.ensures.cause
