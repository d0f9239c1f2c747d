use Rattle.tool_words.proofs.OtherWords.{other_command}
use Rattle.tool_words.proofs.laws.other_commands_have_no_job.Goals as goal

pub returns : goal.returns
returns c = other_command
