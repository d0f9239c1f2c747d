use Rattle.tool_top.proofs.AuditPlans.{audit_said}
use Rattle.tool_top.proofs.auditing.plan_judged.Goals as goal

pub returns-in_ok-judge-in-Ok : goal.returns-in_ok-judge-in-Ok
returns-in_ok-judge-in-Ok c =
    audit_said c.args.bytes.now c.args.text.now c.in-Ok.image c.in_ok-judge-in-Ok.field-0 c.says_judgement.result c.in-Ok.ensures.loaded c.in_ok-judge-in-Ok.ensures
    c.says_judgement.ensures.verdict c.says_judgement.ensures.files c.says_judgement.ensures.text
