use Rattle.std.proofs.Common.{◌+◌, refl, subst, sym, Some, arith}
use Rattle.cdcl_core.specs.declared.trail.Entry.{Entry}
use Rattle.cdcl_core.specs.Trails.{Assignment, trail_values}
use Rattle.cdcl_core.specs.Passes.{ArePending}
use Rattle.cdcl_core.proofs.Reading.{got_at}
use Rattle.cdcl_core.proofs.Forcing.{below_at, false_clause, followed_forced}
use Rattle.cdcl_core.proofs.Scanning.{calm_satisfied}
use Rattle.cdcl_core.proofs.Pending.{none_past, looked, looked_within, looked_forced, forced_calm}
use Rattle.cdcl_core.proofs.following.look.Goals as goal

pub state_of-requires-clause-below : goal.state_of-requires-clause-below
state_of-requires-clause-below c =
    let at = got_at c.args.clauses.now c.args.place c.at-clause.result.now c.at-clause.ensures.value in
    below_at _ c.args.clauses.now c.args.place c.at-clause.result.now at.0 at.1 c.requires.below

pub returns-then-place-len-clause-looked : goal.returns-then-place-len-clause-looked
returns-then-place-len-clause-looked c =
    λ first to_come late pending none.
    looked c.args.clauses.now c.args.trail.now.entries first c.args.place to_come (λ d got. absurd (none_past c.args.clauses.now c.args.place d (omega (arith, c.if-place-len.true, c.len.ensures)) got)) pending

pub returns-then-shows_calm-clause-looked : goal.returns-then-shows_calm-clause-looked
returns-then-shows_calm-clause-looked c =
    let at = got_at c.args.clauses.now c.args.place c.at-clause.result.now c.at-clause.ensures.value in
    λ first to_come late pending none.
    looked_within c.args.clauses.now c.args.trail.now.entries first c.args.place to_come c.at-clause.result.now at.0 at.1 (c.shows_calm.ensures c.if-shows_calm.true) pending

pub returns-in-Falsified-clause-conflict : goal.returns-in-Falsified-clause-conflict
returns-in-Falsified-clause-conflict c =
    let at = got_at c.args.clauses.now c.args.place c.at-clause.result.now c.at-clause.ensures.value in
    false_clause c.args.clauses.now (trail_values c.args.trail.now.entries) c.args.place c.at-clause.result.now at.0 at.1 c.in-Falsified.ensures

pub returns-in_ok-push-in-Forces-clause-followed : goal.returns-in_ok-push-in-Forces-clause-followed
returns-in_ok-push-in-Forces-clause-followed c =
    let at = got_at c.args.clauses.now c.args.place c.at-clause.result.now c.at-clause.ensures.value in
    followed_forced c.args.clauses.now c.args.trail.now c.push.new.self c.args.place c.at-clause.result.now c.in-Forces.literal c.requires.trail at.0 at.1 c.in-Forces.ensures c.in_ok-push-in-Forces.ensures.ok c.in_ok-push-in-Forces.ensures.fewer

pub returns-in_ok-push-in-Forces-clause-looked : goal.returns-in_ok-push-in-Forces-clause-looked
returns-in_ok-push-in-Forces-clause-looked c =
    let at = got_at c.args.clauses.now c.args.place c.at-clause.result.now c.at-clause.ensures.value in
    λ first to_come late pending none.
    let e : Entry = record { literal = c.in-Forces.literal; reason = Some (c.args.place + 1) } in
    subst (λ (t : Assignment). ArePending c.args.clauses.now t.entries first to_come) (sym c.in_ok-push-in-Forces.ensures.ok)
    (looked_forced c.args.clauses.now c.args.trail.now.entries e first c.args.place to_come c.at-clause.result.now late at.0 at.1
    (forced_calm c.args.trail.now.entries e c.at-clause.result.now c.in-Forces.literal refl c.in-Forces.ensures.0) pending)

pub returns-in-Open-clause-looked : goal.returns-in-Open-clause-looked
returns-in-Open-clause-looked c =
    let at = got_at c.args.clauses.now c.args.place c.at-clause.result.now c.at-clause.ensures.value in
    λ first to_come late pending none.
    looked_within c.args.clauses.now c.args.trail.now.entries first c.args.place to_come c.at-clause.result.now at.0 at.1 c.in-Open.ensures.0 pending

pub returns-in-Satisfied-clause-looked : goal.returns-in-Satisfied-clause-looked
returns-in-Satisfied-clause-looked c =
    let at = got_at c.args.clauses.now c.args.place c.at-clause.result.now c.at-clause.ensures.value in
    λ first to_come late pending none.
    looked_within c.args.clauses.now c.args.trail.now.entries first c.args.place to_come c.at-clause.result.now at.0 at.1
    (calm_satisfied (trail_values c.args.trail.now.entries) c.at-clause.result.now c.in-Satisfied.ensures) pending
