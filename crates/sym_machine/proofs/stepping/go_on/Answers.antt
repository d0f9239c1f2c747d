use Rattle.sym_machine.proofs.Runs.{all_steps, no_step, one_step, smaller, stops_branch, stops_ended, stops_pin}
use Rattle.sym_machine.proofs.stepping.go_on.Goals as goal

pub loop-decoded-init : goal.loop-decoded-init
loop-decoded-init c = record { onward = no_step c.args.most c.args.state.now c.requires.within c.requires.knows }

pub step-requires-clause-knows : goal.step-requires-clause-knows
step-requires-clause-knows c = c.loop-decoded.invariant.onward.knows

pub loop-decoded-smaller : goal.loop-decoded-smaller
loop-decoded-smaller c =
    smaller c.args.most c.loop-decoded.state c.step.new.state c.requires.steps (rw c.steps.ensures at c.loop-decoded-test.true)
    (rw c.in-Ok-Running.field-0-is at c.in-Ok-Running.ensures.ok)

pub loop-decoded-preserved : goal.loop-decoded-preserved
loop-decoded-preserved c = record {
  onward = one_step c.args.most c.args.state.now c.loop-decoded.state c.step.new.state c.requires.steps c.loop-decoded.invariant.onward
      (rw c.steps.ensures at c.loop-decoded-test.true) (rw c.in-Ok-Running.field-0-is at c.in-Ok-Running.ensures.ok);
}

pub returns-in-Ok-Ended : goal.returns-in-Ok-Ended
returns-in-Ok-Ended c =
    stops_ended c.args.most c.args.state.now c.loop-decoded.state c.step.new.state c.in-Ok-Ended.end c.requires.steps c.loop-decoded.invariant.onward
    (rw c.steps.ensures at c.loop-decoded-test.true) (rw c.in-Ok-Ended.field-0-is at c.in-Ok-Ended.ensures.ok)

pub returns-in-Err-Side : goal.returns-in-Err-Side
returns-in-Err-Side c =
    let at = rw c.in-Err-Side.field-0-is at c.in-Err-Side.ensures.err in
    rw c.in-Err-Side.field-0-is
    (stops_branch c.args.most c.args.state.now c.loop-decoded.state c.step.new.state c.in-Err-Side.term c.loop-decoded.invariant.onward
    (rw c.steps.ensures at c.loop-decoded-test.true) at.0 at.1)

pub returns-in-Err-Number : goal.returns-in-Err-Number
returns-in-Err-Number c =
    let at = rw c.in-Err-Number.field-0-is at c.in-Err-Number.ensures.err in
    rw c.in-Err-Number.field-0-is
    (stops_pin c.args.most c.args.state.now c.loop-decoded.state c.step.new.state c.in-Err-Number.place c.in-Err-Number.term c.loop-decoded.invariant.onward
    (rw c.steps.ensures at c.loop-decoded-test.true) at.0 at.1)

pub returns : goal.returns
returns c = all_steps c.args.most c.args.state.now c.loop-decoded.state c.loop-decoded.invariant.onward (rw c.steps.ensures at c.loop-decoded-test.false)
