use Rattle.tool_top.proofs.UpgradeEndings.{upgrades_file, upgrades_refused}
use Rattle.tool_top.proofs.upgrading.plan_upgraded.Goals as goal

pub returns-in-Ok : goal.returns-in-Ok
returns-in-Ok c =
    upgrades_file c.args.out.now c.args.text.now c.in-Ok.new c.plan_file.result c.in-Ok.ensures.given
    c.plan_file.ensures.verdict c.plan_file.ensures.files c.plan_file.ensures.text

pub returns-in_ok-line-in-Err-Refused : goal.returns-in_ok-line-in-Err-Refused
returns-in_ok-line-in-Err-Refused c =
    upgrades_refused c.args.out.now c.args.text.now c.in-Err-Refused.why c.says_only.result (rw c.in-Err-Refused.field-0-is at c.in-Err-Refused.ensures.refused)
    c.says_only.ensures.verdict c.says_only.ensures.files (rw (c.as_slice.ensures.value, c.in_ok-line-in-Err-Refused.ensures) at c.says_only.ensures.text)
