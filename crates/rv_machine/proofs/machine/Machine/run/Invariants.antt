use Rattle.std.proofs.Common.{◌-◌, ◌≤◌}
use Rattle.rv_machine.proofs.Going.{Follows}
use Rattle.rv_machine.proofs.machine.Machine.run.Given as goal

abbrev pub invariant-loop-steps : goal.invariant-loop-steps
invariant-loop-steps l = record {
  few : l.steps ≤ l.most;
  follows : Follows l.fn.self l.machine l.steps;
}

abbrev pub decreases-loop-steps : goal.decreases-loop-steps
decreases-loop-steps l = l.most - l.steps
