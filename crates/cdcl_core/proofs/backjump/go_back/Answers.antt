use Rattle.std.proofs.Common.{◌++◌, ◌∷◌, [], List, sym, subst, arith}
use Rattle.cnf_form.specs.Propagation.{unassigned}
use Rattle.cdcl_core.specs.declared.trail.Entry.{Entry}
use Rattle.cdcl_core.specs.Trails.{trail_values, IsTrail, IsCalm, IsCalmBefore}
use Rattle.cdcl_core.proofs.Values.{no_trail}
use Rattle.cdcl_core.proofs.Backjumping.{cut_trail, cut_calm}
use Rattle.cdcl_core.proofs.backjump.go_back.Goals as goal
use Rattle.cdcl_core.proofs.backjump.go_back.Goals.{then-is_restart, else-is_restart}

pub returns-in-Some-clause-trail : goal.returns-in-Some-clause-trail
returns-in-Some-clause-trail c =
    let calm : IsCalmBefore c.if-is_restart.start c.args.trail.now.entries c.args.clause.now = elim c.if-is_restart.branch [
      | then-is_restart w ↦ λ p early. absurd (omega (arith, early, w.start-is))
      | else-is_restart w ↦ rw w.start-is w.second-start.ensures
    ] in
    subst (λ (es : List Entry). IsTrail (c.args.clauses.now ++ c.args.clause.now ∷ []) es) (sym c.cut.ensures.entries)
    (cut_trail c.args.clauses.now c.args.trail.now.entries c.args.clause.now c.in-Some.place c.if-is_restart.start c.requires calm c.in-Some.ensures.first)

pub returns-in-Some-clause-calm : goal.returns-in-Some-clause-calm
returns-in-Some-clause-calm c =
    λ k d early at.
    subst (λ (es : List Entry). IsCalm (trail_values es) d) (sym c.cut.ensures.entries) (cut_calm c.args.clauses.now c.args.trail.now.entries c.in-Some.place c.requires c.in-Some.ensures.some k d at)

pub returns-in-None-clause-trail : goal.returns-in-None-clause-trail
returns-in-None-clause-trail c =
    subst (λ (es : List Entry). IsTrail (c.args.clauses.now ++ c.args.clause.now ∷ []) es) (sym c.cut-in-None.ensures.entries) (no_trail (c.args.clauses.now ++ c.args.clause.now ∷ []) unassigned)
