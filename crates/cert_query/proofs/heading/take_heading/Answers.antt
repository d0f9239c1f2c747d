use Rattle.std.proofs.lemmas.Result.{err_from_is_err_and}
use Rattle.cert_query.proofs.Faulted.{fault_in_base, fault_in_inputs}
use Rattle.cert_query.proofs.heading.take_heading.Goals as goal

pub returns-in_err-rest-clause-cause : goal.returns-in_err-rest-clause-cause
returns-in_err-rest-clause-cause c =
    let refused = fault_in_inputs c.args.lines.now c.in_ok-inputs.rest.now c.in_ok-inputs.inputs c.in_ok-inputs.nodes c.in_err-rest.field-0.0 c.in_ok-inputs.ensures.taken c.in_err-rest.ensures.cause in
    let p = err_from_is_err_and c.from_residual-in_err-rest.result c.from_residual-in_err-rest.ensures.1 in
    rw (p.1, p.2) refused

pub returns-in_err-rest-2-clause-cause : goal.returns-in_err-rest-2-clause-cause
returns-in_err-rest-2-clause-cause c =
    let refused = fault_in_base c.args.lines.now c.in_ok-inputs.rest.now c.in_ok-rest.rest.now c.in_ok-inputs.inputs c.in_ok-inputs.nodes c.in_err-rest-2.field-0.0 c.in_ok-inputs.ensures.taken
    c.in_ok-rest.ensures.taken c.in_err-rest-2.ensures.cause in
    let p = err_from_is_err_and c.from_residual-in_err-rest-2.result c.from_residual-in_err-rest-2.ensures.1 in
    rw (p.1, p.2) refused
