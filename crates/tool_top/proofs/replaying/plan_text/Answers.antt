use Rattle.tool_top.proofs.ReplayPlans.{replays_no_test}
use Rattle.tool_top.proofs.replaying.plan_text.Goals as goal

pub returns-in_ok-line-in-Err-Refused : goal.returns-in_ok-line-in-Err-Refused
returns-in_ok-line-in-Err-Refused c =
    replays_no_test c.args.bytes.now c.args.text.now c.args.image.now c.in-Err-Refused.why c.says_only.result c.requires.loads (rw c.in-Err-Refused.field-0-is at c.in-Err-Refused.ensures.refused)
    c.says_only.ensures.verdict c.says_only.ensures.files (rw (c.as_slice.ensures.value, c.in_ok-line-in-Err-Refused.ensures) at c.says_only.ensures.text)
