use Rattle.std.proofs.Common.{◌≡◌, ◌∙◌, List, Some, slice_get, ap, sym, inl, inr}
use Rattle.cnf_form.specs.Literals.{Literal}
use Rattle.cnf_form.proofs.Occurs.{occurs_at}
use Rattle.cdcl_core.proofs.occurrences.occurrences.Goals as goal

pub loop-place-preserved : goal.loop-place-preserved
loop-place-preserved c =
    λ v seen.
    let at : slice_get c.args.formula.now c.loop-place.place ≡ Some c.at.result.now
    = ap (λ (cs : List (List Literal)). slice_get cs c.loop-place.place) (sym c.clauses-clauses.ensures) ∙ c.at.ensures.value in
    elim (c.note_clause.ensures v seen) [
      | inl before ↦ c.loop-place.invariant v before
      | inr has ↦ occurs_at c.args.formula.now c.loop-place.place c.at.result.now v at has
    ]
