use Rattle.std.proofs.Common.{sym, subst, List}
use Rattle.cdcl_core.specs.declared.trail.Entry.{Entry}
use Rattle.cdcl_core.specs.Trails.{IsDecisionAt}
use Rattle.cdcl_core.proofs.Backjumping.{none_decided}
use Rattle.cdcl_core.proofs.backjump.decision_from.Goals as goal

pub returns-then-is_none-clause-first : goal.returns-then-is_none-clause-first
returns-then-is_none-clause-first c =
    λ p early is. c.loop-place.invariant p early (subst (λ (es : List Entry). IsDecisionAt es p) (sym c.entries-entries.ensures.value) is)

pub loop-place-preserved : goal.loop-place-preserved
loop-place-preserved c =
    none_decided c.entries-entries.result.now c.loop-place.place c.args.start c.index-entries-place.result c.is_none.result c.loop-place-test.true c.is_none.ensures c.if-is_none.false c.loop-place.invariant
