-- A run that goes on for a while.
use Rattle.std.specs.Prelude.{ℕ, ◌≤◌}
use Rattle.sym_machine.specs.Advancing.{StoppedBy}
use Rattle.sym_machine.specs.declared.stepping.Stop.{Stop}
use Rattle.sym_state.specs.Moves.{IsSame}
use Rattle.sym_state.specs.Programs.{Program}
use Rattle.sym_state.specs.Runs.{IsSampled, left_to_do}
use Rattle.sym_state.specs.Symbolic.{Symbolic}

-- it stopped so, stands for the same assignments, of which its sample is one, on the same side of
-- every fork, and has no more to do
pub record IsOnward (p : Program) (most : ℕ) (old new : Symbolic) (stop : Stop) : Type 0 where
  pub stopped : StoppedBy p most new stop
  pub same : IsSame old new
  pub sampled : IsSampled new
  pub less : left_to_do new ≤ left_to_do old
