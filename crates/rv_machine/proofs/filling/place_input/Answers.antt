use Rattle.rv_machine.proofs.Placing.{next_mapped}
use Rattle.rv_machine.proofs.filling.place_input.Goals as goal

pub fill-requires-clause-mapped : goal.fill-requires-clause-mapped
fill-requires-clause-mapped c =
    next_mapped _ _ c.args.regions.now c.loop-region.region-index _ c.loop-region.invariant.flags c.loop-region-test.true c.loop-region.invariant.mapped
