use Rattle.std.proofs.Common.{sym}
use Rattle.tool_top.proofs.Plans.{treats_misfit, treats_reported}
use Rattle.tool_top.proofs.exploring.plan_bytes.Goals as goal

pub returns-in-Err : goal.returns-in-Err
returns-in-Err g c =
    treats_misfit _ _ _ _ _ _ _ c.refuse_input.result c.in-Ok.ensures.loaded (sym c.in-Err.ensures)
    c.refuse_input.ensures.verdict c.refuse_input.ensures.files c.refuse_input.ensures.text

pub returns-in-Ok-fit : goal.returns-in-Ok-fit
returns-in-Ok-fit g c =
    treats_reported _ _ _ _ _ _ c.plan_fitting.result c.in-Ok.ensures.loaded (sym c.in-Ok-fit.ensures)
    c.plan_fitting.ensures.verdict c.plan_fitting.ensures.report
