use Rattle.std.proofs.Common.{◌≡◌, false, sym, ap, ◌∙◌, arith}
use Rattle.std.specs.Prelude.{is_some, not}
use Rattle.rv_spec.specs.Machine.{first_state}
use Rattle.rv_machine.proofs.Going.{still_going, follows-more, comes_full, comes_last, comes_from_start}
use Rattle.rv_machine.proofs.machine.Machine.run.Goals as goal
use Rattle.rv_machine.proofs.machine.Machine.run.Goals.{then-loop-steps-test+else-is_none, else-loop-steps-test}

pub loop-steps-preserved : goal.loop-steps-preserved
loop-steps-preserved c =
    let going : is_some c.loop-steps.machine.end ≡ false = ap is_some (sym c.end.ensures) ∙ c.is_none.ensures ∙ ap not c.if-is_none.true in
    record {
      few = omega (arith, c.loop-steps-test.true);
      follows = follows-more c.args.self c.loop-steps.machine c.step.new.self c.loop-steps.steps c.loop-steps.invariant.follows (still_going c.loop-steps.machine.end going) c.in_ok-step.ensures.ok;
    }

pub returns-clause-onward : goal.returns-clause-onward
returns-clause-onward c =
    elim c.loop-steps-test.branch [
      | then-loop-steps-test+else-is_none w ↦
          comes_last c.args.self c.loop-steps.machine c.loop-steps.steps c.args.most c.into_ran.result c.loop-steps.invariant.few
          (ap is_some (sym w.end.ensures) ∙ w.if-is_none.ensures) c.loop-steps.invariant.follows c.into_ran.ensures
      | else-loop-steps-test w ↦
          comes_full c.args.self c.loop-steps.machine c.loop-steps.steps c.args.most c.into_ran.result
          (omega (arith, w.loop-steps-test.false, c.loop-steps.invariant.few)) c.loop-steps.invariant.follows c.into_ran.ensures
    ]

pub returns-clause-started : goal.returns-clause-started
returns-clause-started c =
    λ image regions input. comes_from_start c.args.self c.args.most c.into_ran.result (first_state image regions input) (returns-clause-onward c)
