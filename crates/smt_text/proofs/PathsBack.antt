-- Paths: what was written is read back.
use Rattle.std.proofs.Common.{◌≡◌, ℕ, ◌<◌, List, ◌++◌, length, None, Some, refl}
use Rattle.std.specs.Prelude.{All}
use Rattle.std.specs.List.{flat_map}
use Rattle.fork_spec.specs.Leaves.{IsSmallStep}
use Rattle.rv_decode.specs.declared.ends.PathStep.{PathStep}
use Rattle.rv_decode.specs.declared.ends.PathStep.TheVariants.{Taken, NotTaken, Target}
use Rattle.text_parts.specs.Items.{step}
use Rattle.text_parts.specs.Names.{step_text}
use Rattle.text_parts.specs.Pieces.{behind, items, list_end, named}
use Rattle.text_parts.proofs.ItemsBack.{eight_back, items_back, some_step}

step_back : (s : PathStep) (rest : List ℕ) → IsSmallStep s → step (step_text s ++ rest) ≡ Some (s, rest)
unfolding step named behind
step_back Taken rest small = refl
step_back NotTaken rest small = refl
step_back (Target address) rest small = rw (eight_back address rest small) refl

no_end_step : (s : PathStep) (rest : List ℕ) → behind list_end (step_text s ++ rest) ≡ None
unfolding behind
no_end_step Taken rest = refl
no_end_step NotTaken rest = refl
no_end_step (Target address) rest = refl

pub steps_back : (steps : List PathStep) (rest : List ℕ) (most : ℕ) → All IsSmallStep steps →
    length (flat_map step_text steps) < most →
    items step most (flat_map step_text steps ++ (list_end ++ rest)) ≡ Some (steps, rest)
steps_back = items_back step step_text IsSmallStep step_back no_end_step some_step
