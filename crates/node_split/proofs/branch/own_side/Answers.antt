use Rattle.node_split.proofs.Branching.{sides_ok}
use Rattle.node_split.proofs.branch.own_side.Goals as goal

pub returns : goal.returns
returns c =
    sides_ok c.open_side.result _ _ c.open_side.ensures.side
    (λ kid is. is c.args.state.now c.args.term c.requires.at c.in_ok-tested.ensures (rw c.in_ok-sample.ensures c.requires.sampled) (rw c.in_ok-sample.ensures c.requires.on_side))
