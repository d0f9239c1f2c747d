use Rattle.tool_words.proofs.PlainAudit.{plain_audit}
use Rattle.tool_words.proofs.laws.two_words_name_their_audit.Goals as goal

pub returns : goal.returns
returns c = λ tool program test plain. plain_audit program test plain tool
