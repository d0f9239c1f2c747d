use Rattle.std.proofs.Common.{arith}
use Rattle.cow_vec.proofs.Writes.{items-take}
use Rattle.cow_vec.proofs.list.CowVec.truncate.Goals as goal

pub returns-then-len-self : goal.returns-then-len-self
returns-then-len-self g c =
    rw (← c.self.view_is, c.truncate.ensures)
    (items-take _ c.self.inside.len c.args.len c.div_ceil.result c.self.invariant (omega arith) (omega (arith, c.div_ceil.ensures)) (omega (arith, c.div_ceil.ensures)))
