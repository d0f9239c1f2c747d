use Rattle.fork_tree.proofs.Recorded.{recorded}
use Rattle.fork_tree.proofs.laws.a_drained_tree_is_a_history.Goals as goal

pub returns : goal.returns
returns g c = λ worker leaf_of s workers entries drained among reads are all.
    recorded (g.W.Work.rules worker) g.W.State.Placed.place g.W.Leaf.Placed.place leaf_of reads s
    workers entries drained among are all
