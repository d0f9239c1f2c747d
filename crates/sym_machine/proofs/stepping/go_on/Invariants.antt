use Rattle.sym_state.specs.Runs.{left_to_do}
use Rattle.sym_machine.proofs.Runs.{IsOnward}
use Rattle.sym_machine.proofs.stepping.go_on.Given as goal

-- steps were made, and it is not further than it may be
abbrev pub invariant-loop-decoded : goal.invariant-loop-decoded
invariant-loop-decoded l = record {
  onward : IsOnward l.most l.fn.state l.state;
}

abbrev pub decreases-loop-decoded : goal.decreases-loop-decoded
decreases-loop-decoded l = left_to_do l.state
