use Rattle.tool_words.proofs.OtherWords.{asks_explore, asks_long, asks_short, asks_version}
use Rattle.tool_words.proofs.laws.calls_for_help_have_no_job.Goals as goal

pub returns-clause-long : goal.returns-clause-long
returns-clause-long c = asks_long

pub returns-clause-short : goal.returns-clause-short
returns-clause-short c = asks_short

pub returns-clause-version : goal.returns-clause-version
returns-clause-version c = asks_version

pub returns-clause-explore : goal.returns-clause-explore
returns-clause-explore c = asks_explore
