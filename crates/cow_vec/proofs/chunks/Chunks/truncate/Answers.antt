use Rattle.std.proofs.Common.{arith}
use Rattle.cow_vec.proofs.ChunkItems.{first_taken}
use Rattle.cow_vec.proofs.chunks.Chunks.truncate.Goals as goal

pub returns-then-count-gt0 : goal.returns-then-count-gt0
returns-then-count-gt0 g c =
    rw (← c.self.view_is, c.truncate.ensures.items)
    (first_taken c.self.inside.first c.self.inside.rest.items c.args.count c.self.invariant (omega (arith, c.if-count-gt0.true)))
