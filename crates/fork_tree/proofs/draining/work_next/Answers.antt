use Rattle.std.proofs.Common.{◌+◌, ◌^◌, ◌<◌, subst, sym, ◌∙◌}
use Rattle.tree_core.specs.Stories.{Story, content}
use Rattle.fork_tree.proofs.Releases.{none_so_one, none_then_one, releases_same}
use Rattle.fork_tree.specs.Nodes.{StateIs}
use Rattle.fork_tree.specs.Drains.{IsDrained, fuel}
use Rattle.fork_tree.specs.declared.content.Content.{Content}
use Rattle.fork_tree.proofs.Claimed.{claim_at, grows-behind, held-none, none-given_up}
use Rattle.fork_tree.proofs.Drained.{drained}
use Rattle.fork_tree.proofs.Entering.{grows-none, on_err, claimed-status, claimed-state, round-less}
use Rattle.fork_tree.proofs.Noting.{whole-there}
use Rattle.fork_tree.proofs.draining.work_next.Goals as goal

pub returns-in_err-reserve-clause-grows : goal.returns-in_err-reserve-clause-grows
returns-in_err-reserve-clause-grows g c =
    grows-none c.args.by c.args.tree.now.story c.reserve.new.self.story c.reserve.ensures.story

pub returns-in_err-reserve-clause-one_given_up : goal.returns-in_err-reserve-clause-one_given_up
returns-in_err-reserve-clause-one_given_up g c =
    let r = c.args.tree.now.story in let s = c.reserve.new.self.story in
    on_err c.from_residual.result (none_so_one r s (releases_same r s c.reserve.ensures.story))

pub returns-in_err-node-clause-grows : goal.returns-in_err-node-clause-grows
returns-in_err-node-clause-grows g c =
    grows-none c.args.by c.args.tree.now.story c.claim.new.self.story
    (c.in_err-node.ensures.err ∙ c.reserve.ensures.story)

pub returns-in_err-node-clause-one_given_up : goal.returns-in_err-node-clause-one_given_up
returns-in_err-node-clause-one_given_up g c =
    let r = c.args.tree.now.story in let t = c.claim.new.self.story in
    on_err c.from_residual-in_err-node.result
    (none_so_one r t (releases_same r t (c.in_err-node.ensures.err ∙ c.reserve.ensures.story)))

pub enter-requires-clause-held : goal.enter-requires-clause-held
enter-requires-clause-held g c =
    let s = c.reserve.new.self.story in let t = c.claim.new.self.story in
    let claim = claim_at (g.W.Work.rules c.reserve.new.self.worker).IsWell s t c.args.by _ _ c.in-Claimed.is c.in_ok-node.ensures.ok in
    claimed-status s t c.args.by c.in-Claimed.node claim.4 claim.0

pub enter-requires-clause-state : goal.enter-requires-clause-state
enter-requires-clause-state g c =
    let s = c.reserve.new.self.story in let t = c.claim.new.self.story in let m = c.in-Claimed.node in
    let claim = claim_at (g.W.Work.rules c.reserve.new.self.worker).IsWell s t c.args.by _ _ c.in-Claimed.is c.in_ok-node.ensures.ok in
    claimed-state s t c.args.by m c.deref.result.now claim.4 claim.0 claim.1
    (subst (StateIs (content s m)) (sym c.deref.ensures) claim.2)

pub returns-in_err-enter-in-Claimed-clause-none_held : goal.returns-in_err-enter-in-Claimed-clause-none_held
returns-in_err-enter-in-Claimed-clause-none_held g c =
    let s = c.reserve.new.self.story in let t = c.claim.new.self.story in
    let claim = claim_at (g.W.Work.rules c.reserve.new.self.worker).IsWell s t c.args.by _ _ c.in-Claimed.is c.in_ok-node.ensures.ok in
    held-none c.args.tree.now.story s t c.args.by c.in-Claimed.node c.reserve.ensures.story claim.4 c.enter.new.tree.story
    (whole-there (g.W.Work.rules c.reserve.new.self.worker) g.W.State.Placed.place g.W.Leaf.Placed.place s c.claim.ensures.whole)
    claim.0 claim.1 c.requires.none_held c.enter.ensures.held

pub returns-in_err-enter-in-Claimed-clause-grows : goal.returns-in_err-enter-in-Claimed-clause-grows
returns-in_err-enter-in-Claimed-clause-grows g c =
    let s = c.reserve.new.self.story in let t = c.claim.new.self.story in
    let claim = claim_at (g.W.Work.rules c.reserve.new.self.worker).IsWell s t c.args.by _ _ c.in-Claimed.is c.in_ok-node.ensures.ok in
    grows-behind c.args.tree.now.story s t c.args.by c.in-Claimed.node c.reserve.ensures.story claim.4 c.enter.new.tree.story c.enter.ensures.grows

pub returns-in_err-enter-in-Claimed-clause-one_given_up : goal.returns-in_err-enter-in-Claimed-clause-one_given_up
returns-in_err-enter-in-Claimed-clause-one_given_up g c =
    let r = c.args.tree.now.story in let s = c.reserve.new.self.story in let t = c.claim.new.self.story in
    let claim = claim_at (g.W.Work.rules c.reserve.new.self.worker).IsWell s t c.args.by _ _ c.in-Claimed.is c.in_ok-node.ensures.ok in
    on_err c.from_residual-in_err-enter-in-Claimed.result
    (none_then_one r t c.enter.new.tree.story
    (none-given_up r s t c.args.by c.in-Claimed.node c.reserve.ensures.story claim.4)
    c.in_err-enter-in-Claimed.ensures.one_given_up)

pub returns-in_ok-enter-in-Claimed-clause-none_held : goal.returns-in_ok-enter-in-Claimed-clause-none_held
returns-in_ok-enter-in-Claimed-clause-none_held g c =
    let s = c.reserve.new.self.story in let t = c.claim.new.self.story in
    let claim = claim_at (g.W.Work.rules c.reserve.new.self.worker).IsWell s t c.args.by _ _ c.in-Claimed.is c.in_ok-node.ensures.ok in
    held-none c.args.tree.now.story s t c.args.by c.in-Claimed.node c.reserve.ensures.story claim.4 c.enter.new.tree.story
    (whole-there (g.W.Work.rules c.reserve.new.self.worker) g.W.State.Placed.place g.W.Leaf.Placed.place s c.claim.ensures.whole)
    claim.0 claim.1 c.requires.none_held c.enter.ensures.held

pub returns-in_ok-enter-in-Claimed-clause-grows : goal.returns-in_ok-enter-in-Claimed-clause-grows
returns-in_ok-enter-in-Claimed-clause-grows g c =
    let s = c.reserve.new.self.story in let t = c.claim.new.self.story in
    let claim = claim_at (g.W.Work.rules c.reserve.new.self.worker).IsWell s t c.args.by _ _ c.in-Claimed.is c.in_ok-node.ensures.ok in
    grows-behind c.args.tree.now.story s t c.args.by c.in-Claimed.node c.reserve.ensures.story claim.4 c.enter.new.tree.story c.enter.ensures.grows

pub returns-in_ok-enter-in-Claimed-clause-none_given_up : goal.returns-in_ok-enter-in-Claimed-clause-none_given_up
returns-in_ok-enter-in-Claimed-clause-none_given_up g c = λ k.
    let r = c.args.tree.now.story in let s = c.reserve.new.self.story in let t = c.claim.new.self.story in
    let claim = claim_at (g.W.Work.rules c.reserve.new.self.worker).IsWell s t c.args.by _ _ c.in-Claimed.is c.in_ok-node.ensures.ok in
    c.in_ok-enter-in-Claimed.ensures.none_given_up k
    ∙ none-given_up r s t c.args.by c.in-Claimed.node c.reserve.ensures.story claim.4 k

pub returns-in_ok-enter-in-Claimed-clause-less : goal.returns-in_ok-enter-in-Claimed-clause-less
returns-in_ok-enter-in-Claimed-clause-less g c = λ is.
    let s = c.reserve.new.self.story in let t = c.claim.new.self.story in let m = c.in-Claimed.node in
    let claim = claim_at (g.W.Work.rules c.reserve.new.self.worker).IsWell s t c.args.by _ _ c.in-Claimed.is c.in_ok-node.ensures.ok in
    let x = c.deref.result.now in
    let u = c.enter.new.tree.story in
    let w0 = c.args.tree.now.worker in
    let state : StateIs (content s m) x =
    subst (StateIs (content s m)) (sym c.deref.ensures) claim.2 in
    let less : fuel (g.W.Work.rules w0) u < fuel (g.W.Work.rules w0) t +
    ((g.W.Work.rules w0).targets + 2) ^ (g.W.Work.rules w0).left x =
    subst (λ (w : g.row.W.Denot). fuel (g.W.Work.rules w) u < fuel (g.W.Work.rules w) t +
    ((g.W.Work.rules w).targets + 2) ^ (g.W.Work.rules w).left x)
    (c.claim.ensures.worker ∙ c.reserve.ensures.worker) c.in_ok-enter-in-Claimed.ensures.less in
    subst (λ (y : Story (Content g.row.W-State.Denot g.row.W-Leaf.Denot)). fuel (g.W.Work.rules w0)
    u < fuel (g.W.Work.rules w0) y) c.reserve.ensures.story
    (round-less (g.W.Work.rules w0) s t u c.args.by m x claim.4
    (whole-there (g.W.Work.rules c.reserve.new.self.worker) g.W.State.Placed.place g.W.Leaf.Placed.place s c.claim.ensures.whole)
    claim.0 claim.1 state less)

pub returns-in-Quiet-clause-grows : goal.returns-in-Quiet-clause-grows
returns-in-Quiet-clause-grows g c =
    let s = c.reserve.new.self.story in let t = c.claim.new.self.story in
    let claim = claim_at (g.W.Work.rules c.reserve.new.self.worker).IsWell s t c.args.by _ _ c.in-Quiet.is c.in_ok-node.ensures.ok in
    grows-none c.args.by c.args.tree.now.story t (claim.1 ∙ c.reserve.ensures.story)

pub returns-in-Quiet-clause-none_given_up : goal.returns-in-Quiet-clause-none_given_up
returns-in-Quiet-clause-none_given_up g c =
    let s = c.reserve.new.self.story in let t = c.claim.new.self.story in
    let claim = claim_at (g.W.Work.rules c.reserve.new.self.worker).IsWell s t c.args.by _ _ c.in-Quiet.is c.in_ok-node.ensures.ok in
    releases_same c.args.tree.now.story t (claim.1 ∙ c.reserve.ensures.story)

pub returns-in-Quiet-clause-drained : goal.returns-in-Quiet-clause-drained
returns-in-Quiet-clause-drained g c = λ _.
    let s = c.reserve.new.self.story in let t = c.claim.new.self.story in let w = c.reserve.new.self.worker in
    let claim = claim_at (g.W.Work.rules w).IsWell s t c.args.by _ _ c.in-Quiet.is c.in_ok-node.ensures.ok in
    subst (λ (p : g.row.W.Denot × Story (Content g.row.W-State.Denot g.row.W-Leaf.Denot)).
    IsDrained (g.W.Work.rules p.0) g.W.State.Placed.place g.W.Leaf.Placed.place p.1)
    (λ j. (c.reserve.ensures.worker j, sym claim.1 j))
    (drained (g.W.Work.rules w) g.W.State.Placed.place g.W.Leaf.Placed.place s claim.0 c.claim.ensures.whole)
