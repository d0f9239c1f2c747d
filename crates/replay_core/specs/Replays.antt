-- The run of a test's input, beside what the test says of it.
use Rattle.std.specs.Prelude.{◌≡◌}
use Rattle.elf_load.specs.Images.{Image}
use Rattle.rv_machine.specs.declared.run.Ran.{Ran}
use Rattle.rv_spec.specs.Runs.{IsRunOf, Run, run}
use Rattle.test_files.specs.Tests.{Test}
use Rattle.replay_core.specs.declared.replays.Replayed.{Replayed}
use Rattle.replay_core.specs.declared.replays.Replayed.TheVariants.{Same, Differs}

-- the run of the test's input, of so many steps at most as the test says
abbrev pub run_of : Image → Test → Run
run_of image test = run image test.regions test.input test.steps

-- it has the steps, the path, the end and the output that the test says
abbrev pub IsAsSaid : Image → Test → Type 0
IsAsSaid image test = IsRunOf (run_of image test) test.steps test.path test.end test.output

-- what the machine came to is the run
abbrev pub IsWhatRan : Run → Ran → Type 0
IsWhatRan r ran = IsRunOf r ran.steps ran.path.items ran.end ran.output.items

-- the answer is right: the same just where the run is as the test says, and else the run
abbrev pub IsReplay : Image → Test → Replayed → Type 0
IsReplay image test Same = IsAsSaid image test
IsReplay image test (Differs ran) = IsWhatRan (run_of image test) ran × (¬ IsAsSaid image test)

-- What the machine came to is what the test says: the steps and the end, the path and the output.
pub record EndsAlike (ran : Ran) (test : Test) : Type 0 where
  pub steps : ran.steps ≡ test.steps
  pub end : ran.end ≡ test.end

pub record LeavesAlike (ran : Ran) (test : Test) : Type 0 where
  pub path : ran.path.items ≡ test.path
  pub output : ran.output.items ≡ test.output
