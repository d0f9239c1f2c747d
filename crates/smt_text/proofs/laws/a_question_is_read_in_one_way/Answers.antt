use Rattle.smt_text.proofs.OneReading.{question_before}
use Rattle.smt_text.proofs.laws.a_question_is_read_in_one_way.Goals as goal

pub returns : goal.returns
returns c = question_before
