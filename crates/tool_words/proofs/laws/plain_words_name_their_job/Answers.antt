use Rattle.tool_words.proofs.PlainWords.{plain_job}
use Rattle.tool_words.proofs.laws.plain_words_name_their_job.Goals as goal

pub returns : goal.returns
returns c = plain_job
