use Rattle.std.proofs.Common.{◌+◌, ◌∙◌, arith}
use Rattle.rv_machine.proofs.Storing.{mapped_beside}
use Rattle.rv_machine.proofs.transfer.put_word.Goals as goal

pub put-requires-2 : goal.put-requires-2
put-requires-2 c = mapped_beside _ _ c.args.address (c.args.address + 1) c.put.ensures.flags c.requires.access (omega (arith, c.requires.aligned))

pub put-requires-3 : goal.put-requires-3
put-requires-3 c = mapped_beside _ _ c.args.address (c.args.address + 2) (c.put-2.ensures.flags ∙ c.put.ensures.flags) c.requires.access (omega (arith, c.requires.aligned))

pub put-requires-4 : goal.put-requires-4
put-requires-4 c = mapped_beside _ _ c.args.address (c.args.address + 3) (c.put-3.ensures.flags ∙ c.put-2.ensures.flags ∙ c.put.ensures.flags) c.requires.access (omega (arith, c.requires.aligned))
