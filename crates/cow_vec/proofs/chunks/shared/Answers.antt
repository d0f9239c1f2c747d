use Rattle.cow_vec.proofs.ChunkItems.{pieces_of_more}
use Rattle.cow_vec.proofs.chunks.shared.Goals as goal

pub loop-chunk-preserved : goal.loop-chunk-preserved
loop-chunk-preserved g c =
    rw c.in_ok-push.ensures.items
    (pieces_of_more c.loop-chunk.copy.items c.args.chunks.now c.loop-chunk.chunk-index c.chunk-item.result c.in_ok-try_clone.field-0 c.loop-chunk.invariant c.loop-chunk-test.true c.in_ok-try_clone.ensures c.chunk-item.is)
