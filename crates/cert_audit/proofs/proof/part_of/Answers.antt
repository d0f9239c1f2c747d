use Rattle.std.proofs.Common.{◌∙◌}
use Rattle.std.proofs.lemmas.Result.{IfOk-weaker}
use Rattle.cert_audit.proofs.Asking.{cut_of_run}
use Rattle.cert_audit.proofs.Showing.{slice_none}
use Rattle.cert_audit.proofs.proof.part_of.Goals as goal

pub returns-clause-cut : goal.returns-clause-cut
returns-clause-cut c =
    let ids = c.deref.ensures.value ∙ c.in_ok-condition.ensures ∙ c.condition.ensures in
    IfOk-weaker c.slice.result _ _
    (λ part cut. cut_of_run c.args.run.now c.terms.result.now c.deref.result.now c.args.new part c.terms.ensures.value ids cut) c.slice.ensures

pub returns-clause-none : goal.returns-clause-none
returns-clause-none c =
    let ids = c.deref.ensures.value ∙ c.in_ok-condition.ensures ∙ c.condition.ensures in
    IfOk-weaker c.slice.result _ _
    (λ part cut. slice_none c.args.run.now c.args.new part (cut_of_run c.args.run.now c.terms.result.now c.deref.result.now c.args.new part c.terms.ensures.value ids cut).slice)
    c.slice.ensures
