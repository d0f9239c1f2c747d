-- Where steps lead a symbolic run: as far as the machine's runs of a program go.
use Rattle.std.specs.Prelude.{◌≡◌, ℕ, ◌<◌, ◌≤◌}
use Rattle.sym_state.specs.Moves.{IsSame}
use Rattle.sym_state.specs.Programs.{Program}
use Rattle.sym_state.specs.Runs.{IsEnded, IsOpen, left_to_do}
use Rattle.sym_state.specs.Symbolic.{Symbolic}
use Rattle.sym_state.specs.Undecided.{IsBranch, IsPin}
use Rattle.sym_machine.specs.declared.stepping.Stop.{Stop}
use Rattle.sym_machine.specs.declared.stepping.Stop.TheVariants.{Branch, Pin, Ended, Steps}

-- its runs are where it is, before a step that there is still room for
pub record IsUnderway (p : Program) (most : ℕ) (s : Symbolic) : Type 0 where
  pub is_open : IsOpen p s
  pub room : s.steps < most

-- why no step more was made, of at most so many, where it is a run of this program
abbrev pub StoppedBy : Program → (most : ℕ) → Symbolic → Stop → Type 0
StoppedBy p most s (Branch term) = IsUnderway p most s × IsBranch s term
StoppedBy p most s (Pin place term) = IsUnderway p most s × IsPin s place term
StoppedBy p most s (Ended end) = IsEnded p s end × (s.steps ≤ most)
StoppedBy p most s Steps = IsOpen p s × (s.steps ≡ most)

-- steps were made until it stopped, or there were so many
pub record Advances (most : ℕ) (old new : Symbolic) (stop : Stop) : Type 0 where
  pub same : IsSame old new
  pub sample : new.sample ≡ old.sample
  -- nothing more is left to do than was
  pub less : left_to_do new ≤ left_to_do old
  pub stopped : (p : Program) → IsOpen p old → StoppedBy p most new stop
