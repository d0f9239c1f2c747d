use Rattle.std.proofs.Common.{[], ◌∷◌}
use Rattle.tool_io.proofs.Deeds.{IsPrefix-whole}
use Rattle.tool_top.proofs.Plans.{only_reads}
use Rattle.tool_top.proofs.ReplayPlans.{planned_replay}
use Rattle.tool_top.proofs.replaying.plan_replay.Goals as goal

pub returns-in-Ok-clause-ok : goal.returns-in-Ok-clause-ok
returns-in-Ok-clause-ok g c =
    planned_replay c.args.program.now c.args.test.now _ _ c.in-Ok.bytes c.in-Ok.text c.plan_both.result c.in-Ok.ensures.program c.in-Ok.ensures.other c.in-Ok.ensures.told
    (rw (c.as_slice.ensures, c.as_slice-in-Ok.ensures) at c.plan_both.ensures)

pub returns-in-Ok-clause-err : goal.returns-in-Ok-clause-err
returns-in-Ok-clause-err g c =
    only_reads _ _ _ (c.args.program.now ∷ c.args.test.now ∷ []) c.plan_both.result (IsPrefix-whole _) c.in-Ok.ensures.told
