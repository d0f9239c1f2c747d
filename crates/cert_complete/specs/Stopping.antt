-- Forks at which runs have stopped.
use Rattle.sym_machine.specs.declared.stepping.Stop.{Stop}
use Rattle.sym_machine.specs.declared.stepping.Stop.TheVariants.{Branch, Pin, Ended, Steps}
use Rattle.sym_state.specs.Symbolic.{Symbolic}
use Rattle.sym_state.specs.Undecided.{IsBranch, IsPin}

-- a run that has stopped at a fork parts by its term
abbrev pub IsStoppedAt : Symbolic → Stop → Type 0
IsStoppedAt s (Branch term) = IsBranch s term
IsStoppedAt s (Pin place term) = IsPin s place term
IsStoppedAt s (Ended end) = Unit {0}
IsStoppedAt s Steps = Unit {0}
