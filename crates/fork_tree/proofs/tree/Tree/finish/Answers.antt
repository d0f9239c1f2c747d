use Rattle.std.proofs.Common.{None, sym, subst, ◌∙◌}
use Rattle.fork_tree.specs.Trees.{TreeValue}
use Rattle.fork_tree.specs.Calls.{IsEndFit}
use Rattle.fork_tree.proofs.Noting.{tended-finish}
use Rattle.fork_tree.proofs.tree.Tree.finish.Goals as goal

pub invariant_of-self : goal.invariant_of-self
invariant_of-self g c = let i = c.self.inside in
    let fit =
    subst (λ (k : TreeValue g.row.W.Denot g.row.W-State.Denot g.row.W-Leaf.Denot). IsEndFit
    (g.W.Work.rules k.worker) g.W.State.Placed.place g.W.Leaf.Placed.place None k.story
    c.args.by c.args.node c.args.leaf) (sym c.self.view_is) c.requires.fit in
    let tended = tended-finish (g.W.Work.rules i.worker) g.W.State.Placed.place g.W.Leaf.Placed.place
    i.core.story c.note.new.core.story c.args.by c.args.node c.args.leaf i.free.nodes
    (c.self.invariant.0, c.self.invariant.1, c.self.invariant.2) c.note.ensures.story c.note.ensures.there fit in
    (tended.0, tended.1, tended.2, c.note.ensures.most ∙ c.self.invariant.3, c.self.invariant.4)
