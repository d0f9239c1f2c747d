use Rattle.std.proofs.Common.{◌≡◌, ◌≤◌, ◌++◌, length}
use Rattle.cert_query.specs.QuestionLines.{input_lines}
use Rattle.cert_query.proofs.heading.take_inputs.Given as goal

abbrev pub invariant-loop-number : goal.invariant-loop-number
invariant-loop-number l = record {
  passed : l.fn.lines ≡ input_lines 0 l.number ++ l.rest;
  fewer : length l.rest ≤ length l.fn.lines;
}
