use Rattle.std.proofs.Common.{rules, append_assoc}
use Rattle.cert_query.specs.QuestionLines.{question_lines}
use Rattle.cert_query.proofs.giving.push_question.Goals as goal

pub returns : goal.returns
unfolding question_lines
returns c = search (rules, append_assoc)
