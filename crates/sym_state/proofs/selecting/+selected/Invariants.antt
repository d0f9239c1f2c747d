use Rattle.std.proofs.Common.{length}
use Rattle.sym_state.proofs.selecting.+selected.Given as goal

-- proposed from what the function passes where it calls itself
abbrev pub decreases-selected : goal.decreases-selected
decreases-selected l = length l.bits.now
