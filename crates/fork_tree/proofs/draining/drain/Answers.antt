use Rattle.std.proofs.Common.{Ok, refl, ap, subst, ◌∙◌}
use Rattle.fork_tree.proofs.Releases.{none_then_one}
use Rattle.fork_tree.specs.Drains.{IsDrained}
use Rattle.fork_tree.proofs.Entering.{grows-none, grows-both, on_err}
use Rattle.fork_tree.proofs.draining.drain.Goals as goal

pub loop-init : goal.loop-init
loop-init g c = record {
  worker = refl;
  none_held = c.requires.none_held;
  grows = grows-none c.args.by c.args.tree.now.story c.args.tree.now.story refl;
  none_given_up = λ k. refl;
}

pub loop-preserved : goal.loop-preserved
loop-preserved g c = record {
  worker = c.work_next.ensures.worker ∙ c.loop.invariant.worker;
  none_held = c.work_next.ensures.none_held;
  grows = grows-both c.args.by c.args.tree.now.story c.loop.tree.story c.work_next.new.tree.story
      c.loop.invariant.grows c.work_next.ensures.grows;
  none_given_up = λ k. c.in_ok-work_next.ensures.none_given_up k ∙ c.loop.invariant.none_given_up k;
}

pub returns-in_err-work_next-clause-grows : goal.returns-in_err-work_next-clause-grows
returns-in_err-work_next-clause-grows g c =
    grows-both c.args.by c.args.tree.now.story c.loop.tree.story c.work_next.new.tree.story
    c.loop.invariant.grows c.work_next.ensures.grows

pub returns-in_err-work_next-clause-one_given_up : goal.returns-in_err-work_next-clause-one_given_up
returns-in_err-work_next-clause-one_given_up g c =
    on_err c.from_residual.result
    (none_then_one c.args.tree.now.story c.loop.tree.story c.work_next.new.tree.story
    c.loop.invariant.none_given_up c.in_err-work_next.ensures.one_given_up)

pub returns-clause-none_given_up : goal.returns-clause-none_given_up
returns-clause-none_given_up g c = λ k.
    c.in_ok-work_next.ensures.none_given_up k ∙ c.loop.invariant.none_given_up k

pub returns-clause-grows : goal.returns-clause-grows
returns-clause-grows g c =
    grows-both c.args.by c.args.tree.now.story c.loop.tree.story c.work_next.new.tree.story
    c.loop.invariant.grows c.work_next.ensures.grows

pub returns-clause-drained : goal.returns-clause-drained
returns-clause-drained g c =
    subst (λ (x : g.row.W.Denot). IsDrained (g.W.Work.rules x) g.W.State.Placed.place
    g.W.Leaf.Placed.place c.work_next.new.tree.story) c.loop.invariant.worker
    (c.work_next.ensures.drained (c.in_ok-work_next.was ∙ ap Ok c.if-branch.false))
