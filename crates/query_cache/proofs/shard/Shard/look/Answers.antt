use Rattle.std.proofs.Common.{Some, refl, sym, subst}
use Rattle.std.specs.Prelude.{All}
use Rattle.query_cache.specs.Caches.{IsFound, IsServing, KeptAnswers}
use Rattle.query_cache.proofs.Serving.{IsRight, found, found_same, promoted_view, shard_promoted}
use Rattle.query_cache.proofs.shard.Shard.look.Goals as goal

pub invariant_of-self : goal.invariant_of-self
invariant_of-self c = shard_promoted _ c.self.inside.answers c.promote.new.self c.promote.ensures.entries c.self.invariant

pub returns-in-Some-clause-found : goal.returns-in-Some-clause-found
returns-in-Some-clause-found c =
    subst (λ (kept : KeptAnswers). IsFound kept c.args.asked.now (Some c.in_ok-copied.copied)) c.self.view_is
    (found_same c.self.inside.answers.entries c.args.asked.now c.in-Some.answer.now c.in_ok-copied.copied c.self.invariant.right c.in-Some.ensures (sym c.in_ok-copied.ensures))

pub returns-in-Some-clause-same : goal.returns-in-Some-clause-same
returns-in-Some-clause-same c = promoted_view _ c.args.self.now c.self.inside.answers c.promote.new.self c.self.view_is c.promote.ensures.entries

pub invariant_of-self-in-Some-2 : goal.invariant_of-self-in-Some-2
invariant_of-self-in-Some-2 c = shard_promoted _ c.self.inside.answers c.promote-in-Some-2.new.self c.promote-in-Some-2.ensures.entries c.self.invariant

pub returns-in-Some-2-clause-found : goal.returns-in-Some-2-clause-found
returns-in-Some-2-clause-found c =
    let kept = c.args.self.now in
    let serving : IsServing kept c.args.asked.now (Some (c.in-Some-2.kept, c.in-Some-2.answer)) =
    subst (IsServing kept c.args.asked.now) c.in-Some-2.is c.in_ok-kept.ensures in
    found kept c.args.asked.now c.in-Some-2.kept c.in-Some-2.answer c.in-Some-2.answer (subst (All IsRight) c.self.view_is c.self.invariant.right) serving.0 serving.1 refl

pub returns-in-Some-2-clause-same : goal.returns-in-Some-2-clause-same
returns-in-Some-2-clause-same c = promoted_view _ c.args.self.now c.self.inside.answers c.promote-in-Some-2.new.self c.self.view_is c.promote-in-Some-2.ensures.entries
