use Rattle.std.proofs.Common.{List, [], ◌∷◌, ◌++◌, take, arith}
use Rattle.std.proofs.lemmas.Result.{on_ok_weaker, on_err_weaker}
use Rattle.cow_vec.proofs.ChunkItems.{rest_kept, rest_written}
use Rattle.cow_vec.proofs.chunks.Chunks.push_to.Goals as goal

pub returns-then-chunk-gt0-clause-ok : goal.returns-then-chunk-gt0-clause-ok
returns-then-chunk-gt0-clause-ok g c =
    rw (← c.self.view_is)
    (on_ok_weaker _
    (rest_written c.self.inside.first c.self.inside.rest.items c.args.chunk c.index_mut.result.now c.push_to.new.chunk (λ (p : List g.row.T.Denot). take c.args.len p ++ c.args.value ∷ []) c.self.invariant (omega (arith, c.if-chunk-gt0.true)) (rw (← c.self.view_is) at c.requires.there) c.index_mut.ensures.value)
    c.push_to.ensures.ok)

pub returns-then-chunk-gt0-clause-err : goal.returns-then-chunk-gt0-clause-err
returns-then-chunk-gt0-clause-err g c =
    rw (← c.self.view_is)
    (on_err_weaker _
    (rest_kept c.self.inside.first c.self.inside.rest.items c.args.chunk c.index_mut.result.now c.push_to.new.chunk c.self.invariant (omega (arith, c.if-chunk-gt0.true)) (rw (← c.self.view_is) at c.requires.there) c.index_mut.ensures.value)
    c.push_to.ensures.err)
