use Rattle.std.proofs.Common.{All}
use Rattle.std.specs.Map.Iter.{deref_pair}
use Rattle.query_cache.specs.Caches.{Serves}
use Rattle.query_cache.proofs.shard.Shard.first_that_serves.Given as goal

-- none of the entries so far answers the query
abbrev pub invariant-loop-kept : goal.invariant-loop-kept
invariant-loop-kept l = All (λ entry. Serves l.asked (deref_pair entry) → ⊥) l.yielded
