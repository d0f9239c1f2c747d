use Rattle.fork_tree.proofs.Lines.{lines-noted}
use Rattle.fork_tree.proofs.Walked.{walked-noted, walked-opening}
use Rattle.fork_tree.proofs.laws.what_is_written_of_a_story_is_a_walk.Goals as goal

pub returns-clause-opening : goal.returns-clause-opening
returns-clause-opening g c = walked-opening

pub returns-clause-noted : goal.returns-clause-noted
returns-clause-noted g c = walked-noted

pub returns-clause-lines : goal.returns-clause-lines
returns-clause-lines g c = lines-noted
