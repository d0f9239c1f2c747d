use Rattle.tool_words.proofs.PlainUpgrade.{plain_upgrade}
use Rattle.tool_words.proofs.laws.two_words_name_their_upgrade.Goals as goal

pub returns : goal.returns
returns c = λ tool program test plain. plain_upgrade program test plain tool
