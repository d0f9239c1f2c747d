use Rattle.std.proofs.Common.{refl}
use Rattle.sym_state.specs.Runs.{IsFirst, IsOpen}
use Rattle.sym_state.proofs.Opening.{first_sampled, fitting_few, if_first, image_mapped, is_first, is_open}
use Rattle.sym_state.proofs.state.State.first.Goals as goal

pub count_bytes-requires : goal.count_bytes-requires
count_bytes-requires c =
    rw (c.as_slice-regions.ensures, c.regions.ensures.value)
    (record { few = fitting_few c.args.program.now.image c.args.program.now.regions c.regions.ensures.fitted })

pub place_inputs-requires-clause-mapped : goal.place_inputs-requires-clause-mapped
place_inputs-requires-clause-mapped c =
    rw (c.as_slice-regions.ensures, c.regions.ensures.value)
    (image_mapped c.args.program.now c.in_ok-memory.memory c.regions.ensures.fitted
    (rw c.image-image.ensures.value at c.in_ok-memory.ensures.flags))

pub place_inputs-requires-clause-few : goal.place_inputs-requires-clause-few
place_inputs-requires-clause-few c =
    rw (c.new-terms.ensures, c.count_bytes.ensures, c.as_slice-regions.ensures, c.regions.ensures.value)
    (fitting_few c.args.program.now.image c.args.program.now.regions c.regions.ensures.fitted)

pub returns-clause-first : goal.returns-clause-first
returns-clause-first c =
    if_first (IsFirst c.args.program.now) c.begin.result _ _ _ c.begin.ensures
    (rw (c.entry.ensures, c.image-image.ensures.value)
    (is_first c.args.program.now c.new-terms.result _ c.in_ok-memory.memory _
    (rw (c.new-terms.ensures, c.count_bytes.ensures, c.as_slice-regions.ensures, c.regions.ensures.value) refl)
    (rw c.image-image.ensures.value at c.in_ok-memory.ensures.bytes)
    (rw c.image-image.ensures.value at c.in_ok-memory.ensures.flags)
    (rw (c.as_slice-regions.ensures, c.regions.ensures.value) at c.in_ok-place_inputs.ensures)))

pub returns-clause-open : goal.returns-clause-open
returns-clause-open c =
    if_first (IsOpen c.args.program.now) c.begin.result _ _ _ c.begin.ensures
    (rw (c.entry.ensures, c.image-image.ensures.value)
    (is_open c.args.program.now c.new-terms.result _ c.in_ok-memory.memory _
    (rw (c.new-terms.ensures, c.count_bytes.ensures, c.as_slice-regions.ensures, c.regions.ensures.value) refl)
    (rw c.image-image.ensures.value at c.in_ok-memory.ensures.bytes)
    (rw c.image-image.ensures.value at c.in_ok-memory.ensures.flags)
    (rw (c.as_slice-regions.ensures, c.regions.ensures.value) at c.in_ok-place_inputs.ensures)))

pub returns-clause-sampled : goal.returns-clause-sampled
returns-clause-sampled c = first_sampled c.begin.result _ _ _ c.begin.ensures
