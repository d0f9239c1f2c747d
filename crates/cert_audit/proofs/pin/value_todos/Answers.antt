use Rattle.std.proofs.Common.{get_or, take}
use Rattle.std.proofs.lemmas.Grind.{take_at_read}
use Rattle.cert_audit.proofs.Parting.{value_kids-push}
use Rattle.cert_audit.proofs.pin.value_todos.Goals as goal

pub loop-value-preserved : goal.loop-value-preserved
loop-value-preserved c =
    let values = c.args.values.now in
    let at = c.loop-value.value-index in
    rw (c.in_ok-push.ensures.items, (take_at_read values at 0 c.loop-value-test.true).1)
    (value_kids-push c.args.run.now c.args.pin.now.term (take at values) c.loop-value.kids.items (get_or values at 0) c.in_ok-value_todo.field-0
    c.loop-value.invariant c.in_ok-value_todo.ensures)
