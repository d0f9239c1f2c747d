use Rattle.std.proofs.Common.{subst}
use Rattle.fork_tree.specs.Trees.{IsWholeTree, TreeValue}
use Rattle.fork_tree.proofs.Noting.{whole-by}
use Rattle.fork_tree.proofs.tree.Tree.is_whole.Goals as goal

pub returns : goal.returns
returns g c = let i = c.self.inside in
    subst (λ (k : TreeValue g.row.W.Denot g.row.W-State.Denot g.row.W-Leaf.Denot). IsWholeTree
    (g.W.Work.rules k.worker) g.W.State.Placed.place g.W.Leaf.Placed.place k.story) c.self.view_is
    (whole-by (g.W.Work.rules i.worker) g.W.State.Placed.place g.W.Leaf.Placed.place i.core.most i.core.story
    c.self.invariant.0 c.self.invariant.3 c.events.ensures.replays)
