use Rattle.std.proofs.Common.{◌≡◌, ◌<◌, ◌∙◌, length, sym, subst}
use Rattle.tree_core.specs.declared.node.Status.TheVariants.{Held}
use Rattle.tree_core.specs.Stories.{status}
use Rattle.fork_tree.specs.Contents.{cut_in}
use Rattle.fork_tree.specs.Trees.{choices_at}
use Rattle.fork_tree.proofs.Changing.{get_some}
use Rattle.fork_tree.proofs.Claiming.{as-many-candidates}
use Rattle.fork_tree.proofs.Noting.{tended-release}
use Rattle.fork_tree.proofs.tree.Tree.release.Goals as goal

pub set_free-requires : goal.set_free-requires
set_free-requires g c = let i = c.self.inside in let s = i.core.story in
    let there : c.args.node < length s.nodes =
    subst (λ k. c.args.node < length k.story.nodes) (sym c.self.view_is) c.requires.there in
    record {
      there = subst (λ n. c.args.node < n)
          (sym (as-many-candidates (choices_at g.W.State.Placed.place g.W.Leaf.Placed.place)
          (cut_in g.W.State.Placed.place g.W.Leaf.Placed.place) s i.free.nodes c.self.invariant.1)) there;
    }

pub invariant_of-self : goal.invariant_of-self
invariant_of-self g c =
    let i = c.self.inside in let s = i.core.story in let rules = g.W.Work.rules i.worker in
    let there : c.args.node < length s.nodes =
    subst (λ k. c.args.node < length k.story.nodes) (sym c.self.view_is) c.requires.there in
    let held : status s c.args.node ≡ Held c.args.by =
    subst (λ k. status k.story c.args.node ≡ Held c.args.by) (sym c.self.view_is)
    c.requires.held in
    let listed = get_some i.free.nodes c.args.node (subst (λ n. c.args.node < n)
    (sym (as-many-candidates (choices_at g.W.State.Placed.place g.W.Leaf.Placed.place)
    (cut_in g.W.State.Placed.place g.W.Leaf.Placed.place) s i.free.nodes c.self.invariant.1)) there) in
    let tended = tended-release rules g.W.State.Placed.place g.W.Leaf.Placed.place s c.note.new.core.story
    c.args.by c.args.node listed.0 i.free.nodes c.set_free.new.self.nodes
    (c.self.invariant.0, c.self.invariant.1, c.self.invariant.2)
    c.note.ensures.story c.note.ensures.there there held listed.1
    (c.set_free.ensures.nodes listed.0 listed.1) in
    (tended.0, tended.1, tended.2, c.note.ensures.most ∙ c.self.invariant.3, c.self.invariant.4)
