-- A machine and the run that it is at.
use Rattle.std.specs.Prelude.{◌≡◌, Option, Some, None}
use Rattle.rv_decode.specs.declared.ends.End.{End}
use Rattle.rv_spec.specs.Runs.{Run}
use Rattle.rv_machine.specs.HartStates.{HartState, state_of}
use Rattle.rv_machine.specs.declared.step.Step.{Step}
use Rattle.rv_machine.specs.declared.step.Step.TheVariants.{Running, Ended}

-- where a machine stands, and how its run has ended, if it has
pub record Progress : Type 0 where
  pub standing : HartState
  pub end : Option End

-- the machine is where the run is, and has ended as the run has. A machine counts no steps
pub record IsAt (m : Progress) (r : Run) : Type 0 where
  pub state : state_of m.standing ≡ r.state
  pub end : m.end ≡ r.end

-- the answer to a step that leads here
abbrev pub answer_of : Option End → Step
answer_of None = Running
answer_of (Some end) = Ended end
