use Rattle.std.proofs.Common.{◌≡◌, ◌++◌, ◌+◌}
use Rattle.cert_query.specs.QuestionLines.{input_lines}
use Rattle.cert_query.proofs.Lines.{input_more}
use Rattle.cert_query.proofs.Passing.{no_longer}
use Rattle.cert_query.proofs.heading.take_inputs.Goals as goal

pub loop-number-preserved : goal.loop-number-preserved
loop-number-preserved c =
    let passed : c.args.lines.now ≡ input_lines 0 (c.loop-number.number + 1) ++ c.in_ok-rest.rest.now =
    input_more c.args.lines.now c.loop-number.rest.now c.in_ok-rest.rest.now c.loop-number.number c.loop-number.invariant.passed c.in_ok-rest.ensures.taken in
    record { passed = passed; fewer = no_longer c.args.lines.now (input_lines 0 (c.loop-number.number + 1)) c.in_ok-rest.rest.now passed }
