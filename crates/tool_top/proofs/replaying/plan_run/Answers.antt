use Rattle.std.proofs.Common.{◌∙◌}
use Rattle.report_text.proofs.ClaimsLegible.{sum_count}
use Rattle.test_files.proofs.Bounded.{read_bounded}
use Rattle.tool_top.proofs.ReplayPlans.{replays_other, replays_same}
use Rattle.tool_top.proofs.replaying.plan_run.Goals as goal

pub replay-requires-clause-whole : goal.replay-requires-clause-whole
replay-requires-clause-whole c = (read_bounded c.args.text.now c.args.test.now c.requires.replayable.reads).legible.input_long ∙ sum_count c.args.test.now.regions

pub returns-in-Same : goal.returns-in-Same
returns-in-Same c =
    replays_same c.args.bytes.now c.args.text.now c.args.image.now c.args.test.now c.says_only.result c.requires.replayable (rw c.in-Same.is at c.in_ok-replay.ensures)
    c.says_only.ensures.verdict c.says_only.ensures.files c.says_only.ensures.text

pub returns-in_ok-lines-in-Differs : goal.returns-in_ok-lines-in-Differs
returns-in_ok-lines-in-Differs c =
    let ran = rw c.in-Differs.is at c.in_ok-replay.ensures in
    replays_other c.args.bytes.now c.args.text.now c.args.image.now c.args.test.now c.says_only-in-Differs.result c.requires.replayable ran.1
    c.says_only-in-Differs.ensures.verdict c.says_only-in-Differs.ensures.files
    (rw (c.as_slice.ensures, c.in_ok-lines-in-Differs.ensures _ ran.0) at c.says_only-in-Differs.ensures.text)
