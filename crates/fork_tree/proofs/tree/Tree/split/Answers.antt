use Rattle.std.proofs.Common.{◌≡◌, ℕ, ◌+◌, ◌++◌, ◌-◌, ◌^◌, ◌≤◌, ◌<◌, List, length, map, min, vec_len, sym, subst, ◌∙◌, arith}
use Rattle.tree_core.specs.declared.event.Kid.{Kid}
use Rattle.fork_tree.specs.Calls.{IsSplitFit}
use Rattle.fork_tree.specs.Candidates.{kid_candidate}
use Rattle.fork_tree.specs.Contents.{cut_in}
use Rattle.fork_tree.specs.Trees.{TreeValue, choices_at}
use Rattle.fork_tree.specs.declared.content.Content.{Content}
use Rattle.fork_tree.proofs.Changing.{get_some}
use Rattle.fork_tree.proofs.Claiming.{as-many-candidates}
use Rattle.fork_tree.proofs.Noting.{tended-split}
use Rattle.fork_tree.proofs.tree.Tree.split.Goals as goal

at_most_last : (k a b : ℕ) → k ≤ min a b → k ≤ b
at_most_last k a b h = omega arith

has_place : (nodes kids count room : ℕ) → nodes ≤ room → count ≤ room - nodes → kids ≡ count → nodes + kids ≤ room
has_place nodes kids count room within low same = omega arith

fits : (depth deep node n bound : ℕ) → depth ≡ deep → deep ≤ node → node < n → n ≤ bound → bound < 2 ^ 32 → depth + 1 < 2 ^ 64
fits depth deep node n bound same low lt few small = omega arith

pub overflow_add-depth : goal.overflow_add-depth
overflow_add-depth g c =
    let i = c.self.inside in let s = i.core.story in let rules = g.W.Work.rules i.worker in
    let fit =
    subst (λ (k : TreeValue g.row.W.Denot g.row.W-State.Denot g.row.W-Leaf.Denot). IsSplitFit
    (g.W.Work.rules k.worker) g.W.State.Placed.place g.W.Leaf.Placed.place k.story c.args.by
    c.args.node c.args.kids) (sym c.self.view_is) c.requires.fit in
    let long = as-many-candidates (choices_at g.W.State.Placed.place g.W.Leaf.Placed.place)
    (cut_in g.W.State.Placed.place g.W.Leaf.Placed.place) s i.free.nodes c.self.invariant.1 in
    let listed = get_some i.free.nodes c.args.node (subst (λ n. c.args.node < n) (sym long) fit.there) in
    let low = fits c.depth-depth.result listed.0.depth c.args.node (length s.nodes) (rules.nodes + rules.targets)
    (c.depth-depth.ensures.depth listed.0 listed.1) (c.self.invariant.2 c.args.node listed.0 listed.1) fit.there
    c.self.invariant.0.few c.self.invariant.0.small in
    omega (arith, low)

pub list_kids-requires : goal.list_kids-requires
list_kids-requires g c =
    let i = c.self.inside in
    let room =
    subst (λ (k : TreeValue g.row.W.Denot g.row.W-State.Denot g.row.W-Leaf.Denot). vec_len
    c.args.kids ≤ k.node_room) (sym c.self.view_is) c.requires.room in
    record {
      room = has_place (length i.free.nodes) (length c.as_slice.result.now) (vec_len c.args.kids) i.free.capacity
          c.depth-depth.ensures.within (at_most_last _ _ _ room) c.as_slice.ensures.len;
    }

pub invariant_of-self : goal.invariant_of-self
invariant_of-self g c =
    let i = c.self.inside in let s = i.core.story in let rules = g.W.Work.rules i.worker in
    let fit =
    subst (λ (k : TreeValue g.row.W.Denot g.row.W-State.Denot g.row.W-Leaf.Denot). IsSplitFit
    (g.W.Work.rules k.worker) g.W.State.Placed.place g.W.Leaf.Placed.place k.story c.args.by
    c.args.node c.args.kids) (sym c.self.view_is) c.requires.fit in
    let long = as-many-candidates (choices_at g.W.State.Placed.place g.W.Leaf.Placed.place)
    (cut_in g.W.State.Placed.place g.W.Leaf.Placed.place) s i.free.nodes c.self.invariant.1 in
    let listed = get_some i.free.nodes c.args.node (subst (λ n. c.args.node < n) (sym long) fit.there) in
    let deep = c.depth-depth.ensures.depth listed.0 listed.1 in
    let tended = tended-split rules g.W.State.Placed.place g.W.Leaf.Placed.place s c.note.new.core.story
    c.args.by c.args.node c.args.kids listed.0 i.free.nodes c.list_kids.new.free.nodes
    (c.self.invariant.0, c.self.invariant.1, c.self.invariant.2) c.note.ensures.story c.note.ensures.there fit listed.1
    (subst (λ (p : ℕ × List (Kid (Content g.row.W-State.Denot g.row.W-Leaf.Denot))). c.list_kids.new.free.nodes ≡ i.free.nodes ++ map (kid_candidate (p.0 + 1)) p.1)
    (λ j. (deep j, c.as_slice.ensures.value j)) c.list_kids.ensures.nodes) in
    (tended.0, tended.1, tended.2, c.note.ensures.most ∙ c.self.invariant.3, c.self.invariant.4)
