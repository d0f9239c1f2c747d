use Rattle.std.proofs.Common.{get_or}
use Rattle.cert_audit.specs.LeafFaults.{IsValueFault}
use Rattle.cert_audit.proofs.Valuing.{fault_at_value, one_value_more}
use Rattle.cert_audit.proofs.value_lines.take_values.Goals as goal

pub returns-in-Err-clause-cause : goal.returns-in-Err-clause-cause
returns-in-Err-clause-cause c = λ s term valued.
    let here : IsValueFault s term (get_or c.args.values.now c.loop-value.value-index 0) c.loop-value.rest.now c.in-Err.fault = (rw c.in-Err.is at c.in_ok-one.ensures.cause) s term valued in
    fault_at_value s term c.args.valued.now c.args.values.now c.loop-value.value-index 0 c.args.lines.now c.loop-value.rest.now c.loop-value.found.items c.in-Err.fault
    c.loop-value-test.true c.loop-value.invariant valued here

pub loop-value-preserved : goal.loop-value-preserved
loop-value-preserved c =
    rw c.in_ok-push-in-Ok.ensures.items
    (one_value_more c.args.valued.now c.args.values.now c.loop-value.value-index 0 c.args.lines.now c.loop-value.rest.now c.in-Ok.more.now c.loop-value.found.items c.in-Ok.one
    c.loop-value-test.true c.loop-value.invariant (rw c.in-Ok.is at c.in_ok-one.ensures.taken) (rw c.in-Ok.is at c.in_ok-one.ensures.value) (rw c.in-Ok.is at c.in_ok-one.ensures.has))
