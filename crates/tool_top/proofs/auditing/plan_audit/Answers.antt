use Rattle.std.proofs.Common.{[], ◌∷◌}
use Rattle.tool_io.proofs.Deeds.{IsPrefix-whole}
use Rattle.tool_top.proofs.AuditPlans.{planned_audit}
use Rattle.tool_top.proofs.Plans.{only_reads}
use Rattle.tool_top.proofs.auditing.plan_audit.Goals as goal

pub returns-in-Ok-clause-ok : goal.returns-in-Ok-clause-ok
returns-in-Ok-clause-ok g c =
    planned_audit c.args.program.now c.args.certificate.now _ _ c.in-Ok.bytes c.in-Ok.text c.plan_judged.result c.in-Ok.ensures.program c.in-Ok.ensures.other c.in-Ok.ensures.told
    (rw (c.as_slice.ensures, c.as_slice-in-Ok.ensures) at c.plan_judged.ensures)

pub returns-in-Ok-clause-err : goal.returns-in-Ok-clause-err
returns-in-Ok-clause-err g c =
    only_reads _ _ _ (c.args.program.now ∷ c.args.certificate.now ∷ []) c.plan_judged.result (IsPrefix-whole _) c.in-Ok.ensures.told
