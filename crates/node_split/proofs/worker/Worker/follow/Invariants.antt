use Rattle.sym_state.specs.Runs.{left_to_do}
use Rattle.node_split.specs.Working.{IsOnward}
use Rattle.node_split.proofs.worker.Worker.follow.Given as goal

-- the run is as far as it was, or further, and stopped so
abbrev pub invariant-loop-stop : goal.invariant-loop-stop
invariant-loop-stop g l = record {
  onward : IsOnward l.self.program l.self.budgets.steps l.fn.run l.run l.stop;
}

abbrev pub decreases-loop-stop : goal.decreases-loop-stop
decreases-loop-stop g l = left_to_do l.run
