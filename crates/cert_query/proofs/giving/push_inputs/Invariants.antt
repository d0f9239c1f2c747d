use Rattle.std.proofs.Common.{◌≡◌, ◌++◌}
use Rattle.cert_query.specs.QuestionLines.{input_lines}
use Rattle.cert_query.proofs.giving.push_inputs.Given as goal

abbrev pub invariant-loop-number : goal.invariant-loop-number
invariant-loop-number l = l.lines.items ≡ l.fn.lines.items ++ input_lines 0 l.number
