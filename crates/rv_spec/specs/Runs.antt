-- Runs of the machine: steps one after the other, up to an end.
use Rattle.std.specs.Prelude.{◌≡◌, ℕ, zero, suc, ◌+◌, List, Option, Some, None}
use Rattle.elf_load.specs.Images.{Image}
use Rattle.elf_load.specs.declared.region.Region.{Region}
use Rattle.rv_decode.specs.declared.ends.End.{End}
use Rattle.rv_decode.specs.declared.ends.PathStep.{PathStep}
use Rattle.rv_spec.specs.Machine.{State, Outcome, Running, Ended, first_state, next}

-- where a run is, how it ended if it did, and the steps made, the ending one included
pub record Run : Type 0 where
  pub state : State
  pub end : Option End
  pub steps : ℕ

abbrev pub after_outcome : ℕ → Outcome → Run
after_outcome steps (Running s) = record { state = s; end = None; steps = steps }
after_outcome steps (Ended end s) = record { state = s; end = Some end; steps = steps }

-- one step more, unless the run has ended
abbrev pub continued : Run → Option End → Run
continued r None = after_outcome (r.steps + 1) (next r.state)
continued r (Some end) = r

-- at most so many steps from a state
unfoldable pub run_from : State → ℕ → Run
run_from s zero = record { state = s; end = None; steps = 0 }
run_from s (suc most) = let r = run_from s most in continued r r.end

-- the run of an assignment of the input bytes, at most so many steps
abbrev pub run : Image → List Region → List ℕ → ℕ → Run
run image regions input most = run_from (first_state image regions input) most

-- a run has made just so many steps, with this path, this end if it has ended, and this output
pub record IsRunOf (r : Run) (steps : ℕ) (path : List PathStep) (end : Option End)
    (output : List ℕ) : Type 0 where
  pub all_steps : r.steps ≡ steps
  pub same_path : r.state.path ≡ path
  pub same_end : r.end ≡ end
  pub same_output : r.state.output ≡ output
