use Rattle.smt_text.proofs.OneReading.{one_leaf}
use Rattle.smt_text.proofs.laws.a_text_is_read_in_one_way.Goals as goal

pub returns : goal.returns
returns c = one_leaf
