use Rattle.tool_words.proofs.Decimals.{one_text}
use Rattle.tool_words.proofs.laws.a_number_is_written_in_one_way.Goals as goal

pub returns : goal.returns
returns c = one_text
