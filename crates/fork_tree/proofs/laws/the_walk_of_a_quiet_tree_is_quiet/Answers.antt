use Rattle.fork_tree.proofs.Quiet.{leaves-walked}
use Rattle.fork_tree.proofs.Drained.{quiet-quiet}
use Rattle.fork_tree.proofs.laws.the_walk_of_a_quiet_tree_is_quiet.Goals as goal

pub returns : goal.returns
returns g c = record { quiet = quiet-quiet; leaves = leaves-walked }
