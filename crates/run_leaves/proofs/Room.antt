-- There is room for the numbers of a leaf's texts.
use Rattle.std.proofs.Common.{◌≡◌, ℕ, ◌*◌, ◌≤◌, length, arith}
use Rattle.fork_spec.specs.Leaves.{IsSmall}
use Rattle.rv_spec.specs.Memory.{count_of}
use Rattle.sym_state.specs.Programs.{Program}
use Rattle.sym_state.specs.Runs.{IsEnded, IsOpen}
use Rattle.sym_state.specs.Symbolic.{Symbolic, most_steps}
use Rattle.sym_state.specs.declared.ended.RunEnd.{RunEnd}
use Rattle.run_leaves.specs.Leaving.{HasTextRoom}

writable : (s : Symbolic) (inputs steps : ℕ) → s.terms.inputs ≡ inputs → IsSmall inputs → length s.output ≤ 4096 * s.steps
    → s.steps ≤ steps → steps ≤ most_steps → HasTextRoom s
writable s inputs steps is small few within most = record {
  few_inputs = omega (arith, is, small);
  few_outputs = omega (arith, few, within, most);
}

pub open_writable : (p : Program) (s : Symbolic) (steps : ℕ) → IsOpen p s → IsSmall (count_of p.regions) → s.steps ≤ steps → steps ≤ most_steps
    → HasTextRoom s
open_writable p s steps was small within most =
    writable s (count_of p.regions) steps was.inputs small was.few_outputs within most

pub ended_writable : (p : Program) (s : Symbolic) (end : RunEnd) (steps : ℕ) → IsEnded p s end → IsSmall (count_of p.regions)
    → s.steps ≤ steps → steps ≤ most_steps → HasTextRoom s
ended_writable p s end steps was small within most =
    writable s (count_of p.regions) steps was.inputs small was.few_outputs within most
