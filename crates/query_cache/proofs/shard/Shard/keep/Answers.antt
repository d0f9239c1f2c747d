use Rattle.query_cache.proofs.Serving.{shard_put}
use Rattle.query_cache.proofs.shard.Shard.keep.Goals as goal

pub invariant_of-self-2 : goal.invariant_of-self-2
invariant_of-self-2 c =
    shard_put c.self.inside.answers c.put.new.self c.into_parts-query.result.0 c.into_parts-query.result.1
    c.in_ok-put.ensures.entries c.self.invariant c.into_parts-query.ensures.right
