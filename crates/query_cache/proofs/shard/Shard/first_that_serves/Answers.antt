use Rattle.std.proofs.Common.{subst, ◌∙◌}
use Rattle.std.specs.Prelude.{All}
use Rattle.std.specs.Map.Iter.{deref_pair}
use Rattle.std.proofs.lemmas.List.Elements.{All-map}
use Rattle.std.proofs.lemmas.Map.Iter.{iter_end}
use Rattle.query_cache.specs.Caches.{Serves, KeptAnswers}
use Rattle.query_cache.proofs.shard.Shard.first_that_serves.Goals as goal

pub returns : goal.returns
returns c =
    let e = iter_end deref_pair c.self.inside.answers.entries c.loop-kept.yielded c.into_iter-kept-iterator.result c.loop-kept.kept-iterator c.next.new.self c.next.result
    (c.into_iter-kept-iterator.ensures.into_iter_gives ∙ c.iter-kept-items.ensures.rest) c.loop-kept.yielded_by c.in-None.is c.next.ensures.steps in
    subst (λ (kept : KeptAnswers). All (λ entry. Serves c.args.asked.now entry → ⊥) kept) (e.0 ∙ c.self.view_is)
    (All-map (λ entry. Serves c.args.asked.now entry → ⊥) deref_pair c.loop-kept.yielded c.loop-kept.invariant)
