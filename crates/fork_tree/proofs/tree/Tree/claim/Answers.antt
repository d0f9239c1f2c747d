use Rattle.std.proofs.Common.{ℕ, List, IsTrue, length, subst, refl, sym, arith, ◌∙◌}
use Rattle.std.specs.Arc.{arc_value}
use Rattle.std.proofs.lemmas.Option.{slice_get_within}
use Rattle.tree_core.specs.Orders.{is_named}
use Rattle.tree_core.specs.Stories.{content}
use Rattle.tree_core.specs.declared.event.Event.{Event}
use Rattle.fork_tree.specs.Contents.{cut_in}
use Rattle.fork_tree.specs.Nodes.{StateIs}
use Rattle.fork_tree.specs.Trees.{IsWholeTree, TreeValue, choices_at}
use Rattle.fork_tree.specs.Calls.{IsClaim, claim_event}
use Rattle.fork_tree.specs.declared.content.Content.{Content}
use Rattle.fork_tree.specs.declared.tree.Claim.TheVariants.{Claimed}
use Rattle.tree_core.proofs.Guards.{may-all}
use Rattle.fork_tree.proofs.Allowing.{allowed-claim}
use Rattle.fork_tree.proofs.Claiming.{named-node, none-free}
use Rattle.fork_tree.proofs.Noting.{any_state, by_nodes, free-state, such_state, tended-claim, whole-by}
use Rattle.fork_tree.proofs.tree.Tree.claim.Goals as goal
use Rattle.fork_tree.proofs.tree.Tree.claim.Goals.{then-held-eq0, else-held-eq0}

pub state_of-requires-clause-there : goal.state_of-requires-clause-there
state_of-requires-clause-there g c =
    let i = c.self.inside in
    (named-node (choices_at g.W.State.Placed.place g.W.Leaf.Placed.place) (cut_in g.W.State.Placed.place g.W.Leaf.Placed.place)
    i.core.story i.free.nodes c.self.invariant.1 i.order _ c.in-Some.node c.in-Some.ensures.some).2

pub state_of-requires-clause-free : goal.state_of-requires-clause-free
state_of-requires-clause-free g c =
    let i = c.self.inside in
    (named-node (choices_at g.W.State.Placed.place g.W.Leaf.Placed.place) (cut_in g.W.State.Placed.place g.W.Leaf.Placed.place)
    i.core.story i.free.nodes c.self.invariant.1 i.order _ c.in-Some.node c.in-Some.ensures.some).3

pub state_of-requires-clause-open : goal.state_of-requires-clause-open
state_of-requires-clause-open g c =
    let i = c.self.inside in
    let rules = g.W.Work.rules i.worker in
    let node = named-node (choices_at g.W.State.Placed.place g.W.Leaf.Placed.place) (cut_in g.W.State.Placed.place g.W.Leaf.Placed.place)
    i.core.story i.free.nodes c.self.invariant.1 i.order _ c.in-Some.node c.in-Some.ensures.some in
    any_state rules.IsWell (content i.core.story c.in-Some.node)
    (free-state rules g.W.State.Placed.place g.W.Leaf.Placed.place i.core.story c.in-Some.node c.self.invariant.0
    node.2 node.3)

pub set_free-requires : goal.set_free-requires
set_free-requires g c =
    let i = c.self.inside in
    let node = named-node (choices_at g.W.State.Placed.place g.W.Leaf.Placed.place) (cut_in g.W.State.Placed.place g.W.Leaf.Placed.place)
    i.core.story i.free.nodes c.self.invariant.1 i.order _ c.in-Some.node c.in-Some.ensures.some in
    record { there = slice_get_within i.free.nodes c.in-Some.node node.0 node.1 }

pub note-requires-clause-fit : goal.note-requires-clause-fit
note-requires-clause-fit g c =
    let i = c.self.inside in
    let node = named-node (choices_at g.W.State.Placed.place g.W.Leaf.Placed.place) (cut_in g.W.State.Placed.place g.W.Leaf.Placed.place)
    i.core.story i.free.nodes c.self.invariant.1 i.order _ c.in-Some.node c.in-Some.ensures.some in
    (node.2, tt)

pub note-requires-clause-may : goal.note-requires-clause-may
note-requires-clause-may g c =
    let i = c.self.inside in let s = i.core.story in let m = c.in-Some.node in
    let node = named-node (choices_at g.W.State.Placed.place g.W.Leaf.Placed.place) (cut_in g.W.State.Placed.place g.W.Leaf.Placed.place)
    s i.free.nodes c.self.invariant.1 i.order _ m c.in-Some.ensures.some in
    may-all (by_nodes (g.W.Work.rules i.worker) g.W.State.Placed.place g.W.Leaf.Placed.place) i.core.most s
    (claim_event c.args.by m) (allowed-claim s (claim_event c.args.by m) refl node.3) refl refl

pub invariant_of-self : goal.invariant_of-self
invariant_of-self g c =
    let i = c.self.inside in let s = i.core.story in let m = c.in-Some.node in
    let rules = g.W.Work.rules i.worker in
    let node = named-node (choices_at g.W.State.Placed.place g.W.Leaf.Placed.place) (cut_in g.W.State.Placed.place g.W.Leaf.Placed.place)
    s i.free.nodes c.self.invariant.1 i.order _ m c.in-Some.ensures.some in
    let now : IsTrue (is_named i.order (length s.events) i.free.nodes m) =
    subst (λ (es : List (Event (Content g.row.W-State.Denot g.row.W-Leaf.Denot) ℕ)). IsTrue (is_named i.order (length es) i.free.nodes m))
    c.events-events.ensures.value c.in-Some.ensures.some in
    let named : IsTrue (is_named rules.order (length s.events) i.free.nodes m) =
    subst (λ order. IsTrue (is_named order (length s.events) i.free.nodes m)) c.self.invariant.4 now in
    let tended = tended-claim rules g.W.State.Placed.place g.W.Leaf.Placed.place s
    c.note.new.core.story c.args.by m node.0 i.free.nodes c.set_free.new.self.nodes
    (c.self.invariant.0, c.self.invariant.1, c.self.invariant.2) c.note.ensures.story c.note.ensures.there
    node.2 node.3 node.1 named (c.set_free.ensures.nodes node.0 node.1) in
    (tended.0, tended.1, tended.2, c.note.ensures.most ∙ c.self.invariant.3, c.self.invariant.4)

pub returns-clause-ok : goal.returns-clause-ok
returns-clause-ok g c =
    let i = c.self.inside in
    let m = c.in-Some.node in
    let rules = g.W.Work.rules i.worker in
    let node = named-node (choices_at g.W.State.Placed.place g.W.Leaf.Placed.place) (cut_in g.W.State.Placed.place g.W.Leaf.Placed.place)
    i.core.story i.free.nodes c.self.invariant.1 i.order _ m c.in-Some.ensures.some in
    let has : StateIs (content i.core.story m) (arc_value c.in_ok-state.state) = c.in_ok-state.ensures in
    let state = free-state rules g.W.State.Placed.place g.W.Leaf.Placed.place i.core.story m c.self.invariant.0
    node.2 node.3 in
    subst (λ (k : TreeValue g.row.W.Denot g.row.W-State.Denot g.row.W-Leaf.Denot). IsClaim
    (g.W.Work.rules k.worker).IsWell k.story c.args.by (Claimed m c.in_ok-state.state)
    c.note.new.core.story) c.self.view_is (
      node.2,
      node.3,
      has,
      such_state rules.IsWell (content i.core.story m) (arc_value c.in_ok-state.state) state has,
      c.note.ensures.story,
    )

pub returns-in_default-clause-ok : goal.returns-in_default-clause-ok
returns-in_default-clause-ok g c =
    let i = c.self.inside in let s = i.core.story in
    let rules = g.W.Work.rules i.worker in
    let none = none-free (choices_at g.W.State.Placed.place g.W.Leaf.Placed.place) (cut_in g.W.State.Placed.place g.W.Leaf.Placed.place)
    s i.free.nodes c.self.invariant.1 (c.in_default.ensures.none.0 refl) in
    subst (λ (k : TreeValue g.row.W.Denot g.row.W-State.Denot g.row.W-Leaf.Denot). IsClaim
    (g.W.Work.rules k.worker).IsWell k.story c.args.by c.if-held-eq0.result k.story) c.self.view_is
    (elim c.if-held-eq0.branch [
      | then-held-eq0 w ↦ subst (λ r. IsClaim rules.IsWell s c.args.by r s) (sym w.result-is)
          ((none, sym c.held.ensures ∙ w.if-held-eq0.true), refl)
      | else-held-eq0 w ↦ subst (λ r. IsClaim rules.IsWell s c.args.by r s) (sym w.result-is)
          (none, omega (arith, c.held.ensures, w.if-held-eq0.false), refl)
    ])

pub returns-clause-whole : goal.returns-clause-whole
returns-clause-whole g c = let i = c.self.inside in
    subst (λ (k : TreeValue g.row.W.Denot g.row.W-State.Denot g.row.W-Leaf.Denot). IsWholeTree
    (g.W.Work.rules k.worker) g.W.State.Placed.place g.W.Leaf.Placed.place k.story) c.self.view_is
    (whole-by (g.W.Work.rules i.worker) g.W.State.Placed.place g.W.Leaf.Placed.place i.core.most i.core.story
    c.self.invariant.0 c.self.invariant.3 c.events-events.ensures.replays)

pub returns-in_default-clause-whole : goal.returns-in_default-clause-whole
returns-in_default-clause-whole g c = let i = c.self.inside in
    subst (λ (k : TreeValue g.row.W.Denot g.row.W-State.Denot g.row.W-Leaf.Denot). IsWholeTree
    (g.W.Work.rules k.worker) g.W.State.Placed.place g.W.Leaf.Placed.place k.story) c.self.view_is
    (whole-by (g.W.Work.rules i.worker) g.W.State.Placed.place g.W.Leaf.Placed.place i.core.most i.core.story
    c.self.invariant.0 c.self.invariant.3 c.events-events.ensures.replays)

pub returns-in_err-state-clause-whole : goal.returns-in_err-state-clause-whole
returns-in_err-state-clause-whole g c = let i = c.self.inside in
    subst (λ (k : TreeValue g.row.W.Denot g.row.W-State.Denot g.row.W-Leaf.Denot). IsWholeTree
    (g.W.Work.rules k.worker) g.W.State.Placed.place g.W.Leaf.Placed.place k.story) c.self.view_is
    (whole-by (g.W.Work.rules i.worker) g.W.State.Placed.place g.W.Leaf.Placed.place i.core.most i.core.story
    c.self.invariant.0 c.self.invariant.3 c.events-events.ensures.replays)
