use Rattle.std.proofs.Common.{◌∙◌}
use Rattle.cow_pages.specs.SymbolicMemory.{memory_flags}
use Rattle.rv_machine.proofs.Placing.{next_mapped}
use Rattle.sym_state.proofs.Filling.{inputs_more, placed_more, rest_mapped, rest_left}
use Rattle.sym_state.proofs.Growing.{Continues-trans}
use Rattle.sym_state.proofs.first.place_inputs.Goals as goal

pub fill-requires-clause-mapped : goal.fill-requires-clause-mapped
fill-requires-clause-mapped c =
    next_mapped _ _ c.args.regions.now c.loop-region.region-index _ c.loop-region.invariant.flags c.loop-region-test.true c.loop-region.invariant.mapped

pub loop-region-preserved : goal.loop-region-preserved
loop-region-preserved c = record {
  continues = Continues-trans c.loop-region.invariant.continues c.in_ok-fill.ensures.continues;
  flags = c.in_ok-fill.ensures.flags ∙ c.loop-region.invariant.flags;
  has_bytes = c.in_ok-fill.ensures.has_bytes;
  mapped = rest_mapped (memory_flags c.args.memory.now) c.args.regions.now c.loop-region.region-index (record { start = 0; count = 0 }) c.loop-region-test.true c.loop-region.invariant.mapped;
  left = rest_left c.args.regions.now c.loop-region.region-index _ c.loop-region.first c.loop-region-test.true ∙ c.loop-region.invariant.left;
  expressed =
      inputs_more _ _ _ _ c.args.regions.now _ c.loop-region.region-index c.loop-region.first c.loop-region-test.true c.in_ok-fill.ensures
      ∙ c.loop-region.invariant.expressed;
  worth = λ input small.
      placed_more _ _ _ _ c.args.regions.now _ c.loop-region.region-index c.loop-region.first c.loop-region-test.true c.in_ok-fill.ensures input small
      ∙ c.loop-region.invariant.worth input small;
}
