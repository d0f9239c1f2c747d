use Rattle.std.proofs.Common.{refl}
use Rattle.smt_text.specs.Lines.{AssertLine}
use Rattle.smt_text.proofs.TextLines.{mapped_step, no_lines}
use Rattle.smt_text.proofs.lines.write_assert_lines.Goals as goal

pub loop-id-init : goal.loop-id-init
loop-id-init c = no_lines _ _ refl

pub loop-id-preserved : goal.loop-id-preserved
loop-id-preserved c =
    mapped_step AssertLine c.args.asserted.now c.loop-id.id-index 0 _ _ _ c.loop-id-test.true c.loop-id.invariant c.in_ok-write_assert_line.ensures.ok
