use Rattle.std.proofs.Common.{sym, [], get_or, ◌/◌, ◌%◌}
use Rattle.std.proofs.lemmas.Option.{get_or_from_slice_get}
use Rattle.cow_vec.specs.declared.chunk.TheConstants.{CHUNK}
use Rattle.cow_vec.proofs.Chunked.{slice_get-items}
use Rattle.cow_vec.proofs.list.CowVec.get.Goals as goal

pub returns : goal.returns
returns g c =
    rw (← c.self.view_is)
    (slice_get-items c.self.inside.chunks c.self.inside.len c.args.i [] c.item.result c.self.invariant c.if-i-self.false
    (sym (get_or_from_slice_get (get_or c.self.inside.chunks (c.args.i / CHUNK) []) (c.args.i % CHUNK) c.item.result c.item.result c.item.ensures)))
