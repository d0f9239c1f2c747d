use Rattle.std.proofs.Common.{rules, ◌≡◌, ◌++◌, ◌∷◌, [], ◌+◌}
use Rattle.cert_form.specs.declared.line.CertLine.TheVariants.{Input}
use Rattle.cert_query.specs.QuestionLines.{input_lines}
use Rattle.cert_query.proofs.Lines.{input_push, one_pushed}
use Rattle.cert_query.proofs.giving.push_inputs.Goals as goal

pub loop-number-preserved : goal.loop-number-preserved
loop-number-preserved c =
    let i = c.loop-number.number in
    let push : c.push.new.self.items ≡ c.loop-number.lines.items ++ Input i ∷ [] = search rules in
    one_pushed c.args.lines.now.items (input_lines 0 i) (input_lines 0 (i + 1)) c.loop-number.lines.items c.push.new.self.items (Input i)
    c.loop-number.invariant push (input_push i)
