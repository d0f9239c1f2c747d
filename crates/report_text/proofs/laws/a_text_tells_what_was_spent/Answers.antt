use Rattle.report_text.proofs.LearntBack.{learnt_told}
use Rattle.report_text.proofs.SpentBack.{nodes_told, spent_told}
use Rattle.report_text.proofs.laws.a_text_tells_what_was_spent.Goals as goal

pub returns-clause-targets : goal.returns-clause-targets
returns-clause-targets c = spent_told

pub returns-clause-conflicts : goal.returns-clause-conflicts
returns-clause-conflicts c = learnt_told

pub returns-clause-nodes : goal.returns-clause-nodes
returns-clause-nodes c = nodes_told
