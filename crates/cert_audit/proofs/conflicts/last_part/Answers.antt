use Rattle.std.proofs.Common.{◌∙◌}
use Rattle.cert_audit.proofs.Asking.{last_is}
use Rattle.cert_audit.proofs.conflicts.last_part.Goals as goal

pub returns-in-Some : goal.returns-in-Some
returns-in-Some c =
    let condition = c.in_ok-condition.ensures ∙ c.condition.ensures in
    last_is c.args.run.now c.terms.result.now c.deref-in-Some.result.now c.deref.result.now c.in-Some.last.now c.in_ok-slice-in-Some.field-0
    c.terms.ensures.value (c.deref-in-Some.ensures.value ∙ condition) (c.deref.ensures.value ∙ condition) c.in-Some.ensures.value c.in_ok-slice-in-Some.ensures
