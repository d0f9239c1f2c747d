use Rattle.std.proofs.Common.{◌≡◌, List, false, sym, ap, subst, length, None, ℕ}
use Rattle.cdcl_core.specs.declared.trail.Entry.{Entry}
use Rattle.cdcl_core.specs.Trails.{Assignment, IsTrail}
use Rattle.cdcl_core.specs.Passes.{ArePending}
use Rattle.cdcl_core.proofs.Forcing.{trail_decided}
use Rattle.cdcl_core.proofs.Pending.{decided}
use Rattle.cdcl_core.proofs.descent.choose.Goals as goal

pub follow-requires-clause-trail : goal.follow-requires-clause-trail
follow-requires-clause-trail c =
    subst (λ (t : Assignment). IsTrail c.args.clauses.now t.entries) (sym c.in_ok-push.ensures.ok)
    (trail_decided c.args.clauses.now c.args.trail.now.entries c.args.literal c.requires.trail c.requires.free.1 c.requires.calm c.requires.occurs)

pub returns-clause-calm : goal.returns-clause-calm
returns-clause-calm c =
    let e : Entry = record { literal = c.args.literal; reason = None } in
    let pending : ArePending c.args.clauses.now c.push.new.self.entries (length c.args.trail.now.entries) (λ k. false) =
    subst (λ (t : Assignment). ArePending c.args.clauses.now t.entries (length c.args.trail.now.entries) (λ k. false)) (sym c.in_ok-push.ensures.ok) (decided c.args.clauses.now c.args.trail.now.entries e c.requires.calm) in
    let first : length c.entries-first.result.now ≡ length c.args.trail.now.entries = ap (λ (es : List Entry). length es) c.entries-first.ensures.value in
    c.follow.ensures.calm (subst (λ (n : ℕ). ArePending c.args.clauses.now c.push.new.self.entries n (λ k. false)) (sym first) pending)
