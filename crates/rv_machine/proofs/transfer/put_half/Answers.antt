use Rattle.std.proofs.Common.{◌+◌, arith}
use Rattle.rv_machine.proofs.Storing.{mapped_beside}
use Rattle.rv_machine.proofs.transfer.put_half.Goals as goal

pub put-requires-2 : goal.put-requires-2
put-requires-2 c = mapped_beside _ _ c.args.address (c.args.address + 1) c.put.ensures.flags c.requires.access (omega (arith, c.requires.aligned))
