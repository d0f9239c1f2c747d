use Rattle.std.proofs.Common.{sym, arith}
use Rattle.std.specs.Prelude.{None, Some}
use Rattle.tree_core.specs.declared.cause.Cause.TheVariants.{Steps}
use Rattle.fork_tree.specs.declared.work.Parts.TheVariants.{Finished, CutSteps, Kids}
use Rattle.run_leaves.proofs.Room.{ended_writable, open_writable}
use Rattle.node_split.proofs.Following.{IsAtFork, ends_at, fork_goes, fork_open, fork_parts, fork_place, fork_smaller, onward_self, worked_since}
use Rattle.node_split.proofs.worker.Worker.follow.Goals as goal
use Rattle.node_split.proofs.worker.Worker.follow.Goals.{in-Branch+in_ok-forked-in-Branch, in-Pin+in_ok-forked-in-Pin}

pub loop-stop-init : goal.loop-stop-init
loop-stop-init g c = record {
  onward = onward_self c.args.self.now.program c.args.self.now.budgets.steps c.args.run c.args.stop c.requires.stopped c.requires.sampled;
}

pub cut_steps-requires : goal.cut_steps-requires
cut_steps-requires g c =
    let p = c.self.inside.program in
    let at = rw c.in-Steps.is at (rw (← c.self.view_is) at c.loop-stop.invariant.onward).stopped in
    record { writable = open_writable p c.loop-stop.run c.self.inside.budgets.steps at.0 c.self.invariant.0 (omega (arith, at.1)) c.self.invariant.1 }

pub returns-in-Steps : goal.returns-in-Steps
returns-in-Steps g c =
    let p = c.self.inside.program in
    let budgets = c.self.inside.budgets in
    let on = rw (← c.self.view_is) at c.loop-stop.invariant.onward in
    let at = rw c.in-Steps.is at on.stopped in
    rw (← c.self.view_is)
    (worked_since p budgets c.args.run c.loop-stop.run (CutSteps c.in_ok-cut_steps-in-Steps.field-0) on.same on.less
    (ends_at p budgets (Some Steps) None c.loop-stop.run c.in_ok-cut_steps-in-Steps.field-0 (c.in_ok-cut_steps-in-Steps.ensures.leaf p budgets (sym at.1) at.0 on.sampled)))

pub finish-requires : goal.finish-requires
finish-requires g c =
    let p = c.self.inside.program in
    let at = rw c.in-Ended.is at (rw (← c.self.view_is) at c.loop-stop.invariant.onward).stopped in
    record { writable = ended_writable p c.loop-stop.run c.in-Ended.end c.self.inside.budgets.steps at.0 c.self.invariant.0 at.1 c.self.invariant.1 }

pub returns-in-Ended : goal.returns-in-Ended
returns-in-Ended g c =
    let p = c.self.inside.program in
    let budgets = c.self.inside.budgets in
    let on = rw (← c.self.view_is) at c.loop-stop.invariant.onward in
    let at = rw c.in-Ended.is at on.stopped in
    rw (← c.self.view_is)
    (worked_since p budgets c.args.run c.loop-stop.run (Finished c.in_ok-finish-in-Ended.field-0) on.same on.less
    (ends_at p budgets None None c.loop-stop.run c.in_ok-finish-in-Ended.field-0 (c.in_ok-finish-in-Ended.ensures.leaf p budgets at.0 on.sampled at.1)))

pub know-requires : goal.know-requires
know-requires g c =
    let p = c.self.inside.program in
    let budgets = c.self.inside.budgets in
    let on = rw (← c.self.view_is) at c.loop-stop.invariant.onward in
    let at : IsAtFork p budgets c.loop-stop.run c.match-stop.forked = elim c.match-stop.branch [
      | in-Branch+in_ok-forked-in-Branch w ↦ rw w.forked-is (record {
        underway = (rw w.in-Branch.is at on.stopped).0;
        sampled = on.sampled;
        goes = w.in_ok-forked-in-Branch.ensures;
      })
      | in-Pin+in_ok-forked-in-Pin w ↦ rw w.forked-is (record {
        underway = (rw w.in-Pin.is at on.stopped).0;
        sampled = on.sampled;
        goes = w.in_ok-forked-in-Pin.ensures;
      })
    ] in
    record { place = fork_place p budgets c.loop-stop.run c.match-stop.forked at c.in-One.place c.in-One.decided c.in-One.is }

pub resume-requires-clause-knows : goal.resume-requires-clause-knows
resume-requires-clause-knows g c =
    let p = c.self.inside.program in
    let budgets = c.self.inside.budgets in
    let on = rw (← c.self.view_is) at c.loop-stop.invariant.onward in
    let at : IsAtFork p budgets c.loop-stop.run c.match-stop.forked = elim c.match-stop.branch [
      | in-Branch+in_ok-forked-in-Branch w ↦ rw w.forked-is (record {
        underway = (rw w.in-Branch.is at on.stopped).0;
        sampled = on.sampled;
        goes = w.in_ok-forked-in-Branch.ensures;
      })
      | in-Pin+in_ok-forked-in-Pin w ↦ rw w.forked-is (record {
        underway = (rw w.in-Pin.is at on.stopped).0;
        sampled = on.sampled;
        goes = w.in_ok-forked-in-Pin.ensures;
      })
    ] in
    rw c.know.ensures.value (fork_open p budgets c.loop-stop.run c.match-stop.forked at c.in-One.place c.in-One.decided c.in-One.is (rw c.know.ensures.value at c.know.ensures.formed)).knows

pub resume-requires-clause-within : goal.resume-requires-clause-within
resume-requires-clause-within g c =
    let p = c.self.inside.program in
    let budgets = c.self.inside.budgets in
    let on = rw (← c.self.view_is) at c.loop-stop.invariant.onward in
    let at : IsAtFork p budgets c.loop-stop.run c.match-stop.forked = elim c.match-stop.branch [
      | in-Branch+in_ok-forked-in-Branch w ↦ rw w.forked-is (record {
        underway = (rw w.in-Branch.is at on.stopped).0;
        sampled = on.sampled;
        goes = w.in_ok-forked-in-Branch.ensures;
      })
      | in-Pin+in_ok-forked-in-Pin w ↦ rw w.forked-is (record {
        underway = (rw w.in-Pin.is at on.stopped).0;
        sampled = on.sampled;
        goes = w.in_ok-forked-in-Pin.ensures;
      })
    ] in
    rw (c.know.ensures.value, ← c.self.view_is) (omega (arith, at.underway.room))

pub loop-stop-smaller : goal.loop-stop-smaller
loop-stop-smaller g c =
    let p = c.self.inside.program in
    let budgets = c.self.inside.budgets in
    let on = rw (← c.self.view_is) at c.loop-stop.invariant.onward in
    let at : IsAtFork p budgets c.loop-stop.run c.match-stop.forked = elim c.match-stop.branch [
      | in-Branch+in_ok-forked-in-Branch w ↦ rw w.forked-is (record {
        underway = (rw w.in-Branch.is at on.stopped).0;
        sampled = on.sampled;
        goes = w.in_ok-forked-in-Branch.ensures;
      })
      | in-Pin+in_ok-forked-in-Pin w ↦ rw w.forked-is (record {
        underway = (rw w.in-Pin.is at on.stopped).0;
        sampled = on.sampled;
        goes = w.in_ok-forked-in-Pin.ensures;
      })
    ] in
    fork_smaller p budgets c.loop-stop.run c.match-stop.forked at c.in-One.place c.in-One.decided c.in-One.is
    (rw c.know.ensures.value at c.know.ensures.formed) c.resume.new.run c.in_ok-stop-in-One.stop (rw (c.know.ensures.value, ← c.self.view_is) at c.in_ok-stop-in-One.ensures)

pub loop-stop-preserved : goal.loop-stop-preserved
loop-stop-preserved g c =
    let p = c.self.inside.program in
    let budgets = c.self.inside.budgets in
    let on = rw (← c.self.view_is) at c.loop-stop.invariant.onward in
    let at : IsAtFork p budgets c.loop-stop.run c.match-stop.forked = elim c.match-stop.branch [
      | in-Branch+in_ok-forked-in-Branch w ↦ rw w.forked-is (record {
        underway = (rw w.in-Branch.is at on.stopped).0;
        sampled = on.sampled;
        goes = w.in_ok-forked-in-Branch.ensures;
      })
      | in-Pin+in_ok-forked-in-Pin w ↦ rw w.forked-is (record {
        underway = (rw w.in-Pin.is at on.stopped).0;
        sampled = on.sampled;
        goes = w.in_ok-forked-in-Pin.ensures;
      })
    ] in
    rw (← c.self.view_is) (record {
      onward = fork_goes p budgets c.loop-stop.run c.match-stop.forked at c.in-One.place c.in-One.decided c.in-One.is
          (rw c.know.ensures.value at c.know.ensures.formed) c.args.run c.resume.new.run c.loop-stop.stop c.in_ok-stop-in-One.stop on (rw (c.know.ensures.value, ← c.self.view_is) at c.in_ok-stop-in-One.ensures);
    })

pub returns-in-Split : goal.returns-in-Split
returns-in-Split g c =
    let p = c.self.inside.program in
    let budgets = c.self.inside.budgets in
    let on = rw (← c.self.view_is) at c.loop-stop.invariant.onward in
    let at : IsAtFork p budgets c.loop-stop.run c.match-stop.forked = elim c.match-stop.branch [
      | in-Branch+in_ok-forked-in-Branch w ↦ rw w.forked-is (record {
        underway = (rw w.in-Branch.is at on.stopped).0;
        sampled = on.sampled;
        goes = w.in_ok-forked-in-Branch.ensures;
      })
      | in-Pin+in_ok-forked-in-Pin w ↦ rw w.forked-is (record {
        underway = (rw w.in-Pin.is at on.stopped).0;
        sampled = on.sampled;
        goes = w.in_ok-forked-in-Pin.ensures;
      })
    ] in
    rw (← c.self.view_is)
    (worked_since p budgets c.args.run c.loop-stop.run (Kids c.in-Split.kids c.loop-stop.run) on.same on.less
    (fork_parts p budgets c.loop-stop.run c.match-stop.forked c.in-Split.kids at c.in-Split.is))
