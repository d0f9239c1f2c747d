use Rattle.std.proofs.Common.{◌≡◌, ◌<◌, ◌/◌, ◌%◌, [], get_or, set}
use Rattle.std.proofs.lemmas.Result.{on_ok_weaker}
use Rattle.cow_vec.specs.declared.chunk.TheConstants.{CHUNK}
use Rattle.cow_vec.proofs.Chunked.{below_len}
use Rattle.cow_vec.proofs.Writes.{items-set}
use Rattle.cow_vec.proofs.list.CowVec.set.Goals as goal

pub returns-clause-ok : goal.returns-clause-ok
returns-clause-ok g c =
    let there : c.args.i < c.self.inside.len = below_len _ _ _ c.self.invariant (rw (← c.self.view_is) at c.requires) in
    rw (← c.self.view_is)
    (on_ok_weaker c.set.result
    (λ (is : c.set.new.self ≡ set c.self.inside.chunks (c.args.i / CHUNK) (set (get_or c.self.inside.chunks (c.args.i / CHUNK) []) (c.args.i % CHUNK) c.args.value)).
    rw is (items-set c.self.inside.chunks c.self.inside.len c.args.i [] c.args.value c.self.invariant there))
    c.set.ensures.ok)
