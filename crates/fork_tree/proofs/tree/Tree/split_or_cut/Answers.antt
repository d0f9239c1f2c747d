use Rattle.std.proofs.Common.{◌≡◌, ℕ, ◌<◌, Bool, false, Some, length, nat_le, sym, ap, ◌∙◌, subst, arith}
use Rattle.std.proofs.lemmas.Bool.Decides.{nat_tests}
use Rattle.tree_core.specs.declared.cause.Cause.TheVariants.{Nodes}
use Rattle.tree_core.specs.Stories.{Story}
use Rattle.fork_tree.specs.Calls.{IsSplitFit}
use Rattle.fork_tree.specs.Trees.{TreeValue}
use Rattle.fork_tree.specs.Works.{EndsAs}
use Rattle.fork_tree.specs.declared.content.Content.{Content}
use Rattle.fork_tree.proofs.Fitting.{end_fits, ends_at, split_fits}
use Rattle.fork_tree.proofs.tree.Tree.split_or_cut.Goals as goal

fewer : (b : Bool) (most n : ℕ) → b ≡ nat_le most n → b ≡ false → n < most
fewer b most n is fails = less (sym is ∙ fails)
  where
    less : nat_le most n ≡ false → n < most
    less apart = grind (arith, nat_tests)

pub cut-requires-clause-fit : goal.cut-requires-clause-fit
cut-requires-clause-fit g c =
    let w = c.args.self.now.worker in
    let s = c.args.self.now.story in
    let fit = c.requires.fit in
    let leaf = c.in_ok-leaf.leaf in
    let ends =
    subst (λ (k : TreeValue g.row.W.Denot g.row.W-State.Denot g.row.W-Leaf.Denot). EndsAs
    (g.W.Work.rules k.worker) g.W.State.Placed.place g.W.Leaf.Placed.place (Some Nodes)
    (Some c.len-nodes.result) c.args.run leaf) c.self.view_is c.in_ok-leaf.ensures in
    end_fits (g.W.Work.rules w) g.W.State.Placed.place g.W.Leaf.Placed.place (Some Nodes)
    (Some c.len-nodes.result) s c.args.by c.args.node fit.state leaf fit.there fit.held fit.is_state
    (ends_at (g.W.Work.rules w) g.W.State.Placed.place g.W.Leaf.Placed.place (Some Nodes)
    (Some c.len-nodes.result) fit.state c.args.run leaf fit.run_at ends)
    (ap Some c.len-nodes.ensures.count)

pub split-requires-clause-fit : goal.split-requires-clause-fit
split-requires-clause-fit g c =
    let w = c.args.self.now.worker in
    let s = c.args.self.now.story in
    let fit = c.requires.fit in
    subst (λ (p : g.row.W.Denot × Story (Content g.row.W-State.Denot g.row.W-Leaf.Denot)).
    IsSplitFit (g.W.Work.rules p.0) g.W.State.Placed.place g.W.Leaf.Placed.place p.1 c.args.by
    c.args.node c.args.kids)
    (λ j. (sym c.reserve.ensures.worker j, sym c.reserve.ensures.story j))
    (split_fits (g.W.Work.rules w) g.W.State.Placed.place g.W.Leaf.Placed.place s c.args.by
    c.args.node fit.state c.args.kids fit.there fit.held fit.is_state fit.split
    (fewer c.full.result (g.W.Work.rules w).nodes (length s.nodes) c.full.ensures c.if-full.false))
