use Rattle.rv_machine.proofs.Storing.{mapped_same}
use Rattle.std.proofs.Common.{◌+◌}
use Rattle.sym_state.proofs.Filling.{filled_more}
use Rattle.sym_state.proofs.first.fill.Goals as goal

pub write-requires : goal.write-requires
write-requires c = mapped_same _ _ (c.args.region.now.start + c.loop-i.i) c.loop-i.invariant.flags (c.requires.mapped c.loop-i.i c.loop-i-test.true).1

pub loop-i-preserved : goal.loop-i-preserved
loop-i-preserved c =
    filled_more _ _ _ _ _ _ c.args.region.now.start c.loop-i.i c.args.first c.in_ok-byte.byte c.loop-i.invariant
    c.in_ok-byte.ensures.ok c.in_ok-write.ensures.bytes c.in_ok-write.ensures.flags
