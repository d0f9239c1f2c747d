use Rattle.std.proofs.Common.{Some, length, sym, subst, ◌∙◌}
use Rattle.fork_tree.specs.Trees.{TreeValue}
use Rattle.fork_tree.specs.Calls.{IsEndFit, MayCut}
use Rattle.fork_tree.proofs.Noting.{tended-cut}
use Rattle.fork_tree.proofs.tree.Tree.cut.Goals as goal

pub invariant_of-self : goal.invariant_of-self
invariant_of-self g c = let i = c.self.inside in
    let fit =
    subst (λ (k : TreeValue g.row.W.Denot g.row.W-State.Denot g.row.W-Leaf.Denot). IsEndFit
    (g.W.Work.rules k.worker) g.W.State.Placed.place g.W.Leaf.Placed.place (Some c.args.cause)
    k.story c.args.by c.args.node c.args.leaf) (sym c.self.view_is) c.requires.fit in
    let may =
    subst (λ (k : TreeValue g.row.W.Denot g.row.W-State.Denot g.row.W-Leaf.Denot). MayCut
    (g.W.Work.rules k.worker).nodes (length k.story.nodes) c.args.cause) (sym c.self.view_is)
    c.requires.may in
    let tended = tended-cut (g.W.Work.rules i.worker) g.W.State.Placed.place g.W.Leaf.Placed.place c.args.cause i.core.story
    c.note.new.core.story c.args.by c.args.node c.args.leaf i.free.nodes
    (c.self.invariant.0, c.self.invariant.1, c.self.invariant.2) c.note.ensures.story c.note.ensures.there fit may in
    (tended.0, tended.1, tended.2, c.note.ensures.most ∙ c.self.invariant.3, c.self.invariant.4)
