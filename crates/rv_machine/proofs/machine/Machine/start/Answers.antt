use Rattle.std.proofs.Common.{refl}
use Rattle.rv_spec.specs.Runs.{run_from}
use Rattle.rv_machine.proofs.Placing.{fitting_mapped}
use Rattle.rv_machine.proofs.Starting.{first_at}
use Rattle.rv_machine.proofs.machine.Machine.start.Goals as goal

pub place_input-requires-clause-mapped : goal.place_input-requires-clause-mapped
place_input-requires-clause-mapped c =
    rw (c.in_ok-hart.ensures, c.as_slice.ensures) (fitting_mapped c.args.image.now c.args.regions.now c.requires.fit)

pub returns : goal.returns
unfolding run_from
returns c = record {
  state = first_at c.args.image.now c.args.regions.now c.as_slice.result.now c.args.input.now c.in_ok-hart.hart c.place_input.new.hart
      c.in_ok-hart.ensures c.as_slice.ensures c.place_input.ensures.rest c.place_input.ensures.flags c.place_input.ensures.bytes;
  end = refl;
}
