use Rattle.std.proofs.Common.{refl}
use Rattle.smt_text.specs.Lines.{OutputLine}
use Rattle.smt_text.proofs.TextLines.{no_lines, numbered_step}
use Rattle.smt_text.proofs.lines.write_output_lines.Goals as goal

pub loop-i-init : goal.loop-i-init
loop-i-init c = no_lines _ _ refl

pub loop-i-preserved : goal.loop-i-preserved
loop-i-preserved c =
    numbered_step (λ (i, id). OutputLine i id) c.args.outputs.now c.loop-i.i 0 _ _ _ c.loop-i-test.true c.loop-i.invariant c.in_ok-write_output_line.ensures.ok
