use Rattle.std.proofs.Common.{refl, arith}
use Rattle.query_slice.proofs.Merged.{node_taken}
use Rattle.query_slice.proofs.merging.take_byte.Goals as goal

pub returns-in-Input : goal.returns-in-Input
returns-in-Input c =
    λ places sample long so_far.
    node_taken places sample c.args.answer.now c.args.bytes.now.items _ c.args.node c.in-Input.place c.in-Input.is
    (omega (arith, long, c.requires.there c.in-Input.place c.in-Input.is)) so_far refl
