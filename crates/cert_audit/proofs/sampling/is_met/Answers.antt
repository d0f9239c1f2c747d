use Rattle.std.proofs.Common.{◌∙◌}
use Rattle.cert_audit.proofs.Meeting.{met_ok}
use Rattle.cert_audit.proofs.sampling.is_met.Goals as goal

pub returns : goal.returns
returns c =
    met_ok c.args.run.now c.args.input.now c.in_ok-asked.asked _ _ c.holds.result c.are_bytes.ensures c.terms.ensures.value
    (c.deref.ensures.value ∙ c.in_ok-condition.ensures ∙ c.condition.ensures) c.in_ok-asked.ensures.same_meaning c.holds.ensures
