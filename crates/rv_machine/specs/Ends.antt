-- What a run has come to.
use Rattle.std.specs.Prelude.{◌≡◌, ℕ}
use Rattle.rv_machine.specs.Progress.{Progress}
use Rattle.rv_machine.specs.declared.run.Ran.{Ran}

-- just what the machine has, after so many steps
pub record IsRanOf (ran : Ran) (m : Progress) (steps : ℕ) : Type 0 where
  pub end : ran.end ≡ m.end
  pub made : ran.steps ≡ steps
  pub path : ran.path.items ≡ m.standing.path
  pub output : ran.output.items ≡ m.standing.output
