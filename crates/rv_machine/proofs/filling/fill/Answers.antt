use Rattle.rv_machine.proofs.Storing.{mapped_same}
use Rattle.std.proofs.Common.{◌+◌}
use Rattle.rv_machine.proofs.filling.fill.Goals as goal

pub put-requires : goal.put-requires
put-requires c = mapped_same _ _ (c.args.region.now.start + c.loop-i.i) c.loop-i.invariant.flags (c.requires.mapped c.loop-i.i c.loop-i-test.true).1
