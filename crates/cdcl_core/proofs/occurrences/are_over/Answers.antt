use Rattle.std.proofs.Common.{◌∙◌, List, Bool, subst, sym}
use Rattle.cdcl_core.specs.Occurrences.{AreSeen}
use Rattle.cdcl_core.proofs.Seeing.{all_over}
use Rattle.cdcl_core.proofs.occurrences.are_over.Goals as goal

pub returns : goal.returns
returns c =
    λ yes.
    all_over c.args.formula.now c.deref.result.now (subst (λ (s : List Bool). AreSeen c.args.formula.now s) (sym c.deref.ensures.value) c.in_ok-seen.ensures) c.args.steps.now (sym c.are_all_seen.ensures ∙ yes)
