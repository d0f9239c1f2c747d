use Rattle.std.proofs.Common.{◌≡◌, take}
use Rattle.cow_vec.specs.Chunks.{pieces_of}
use Rattle.cow_vec.proofs.chunks.shared.Given as goal

abbrev pub invariant-loop-chunk : goal.invariant-loop-chunk
invariant-loop-chunk g l = pieces_of l.copy.items ≡ take l.chunk-index (pieces_of l.chunks)
