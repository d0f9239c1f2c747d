use Rattle.fork_tree.proofs.Quiet.{leaves-walked, quiet-walked}
use Rattle.fork_tree.proofs.laws.the_walk_of_a_quiet_story_is_quiet.Goals as goal

pub returns-clause-quiet : goal.returns-clause-quiet
returns-clause-quiet g c = quiet-walked

pub returns-clause-leaves : goal.returns-clause-leaves
returns-clause-leaves g c = leaves-walked
