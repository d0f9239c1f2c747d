use Rattle.tool_words.proofs.PlainReplay.{plain_replay}
use Rattle.tool_words.proofs.laws.two_words_name_their_replay.Goals as goal

pub returns : goal.returns
returns c = λ tool program test plain. plain_replay program test plain tool
