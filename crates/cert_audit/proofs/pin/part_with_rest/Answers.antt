use Rattle.std.specs.Prelude.{Some}
use Rattle.cert_audit.specs.Kids.{rest_cause}
use Rattle.cert_audit.proofs.Parting.{rest_kids}
use Rattle.cert_audit.proofs.pin.part_with_rest.Goals as goal

pub returns : goal.returns
returns c =
    rw c.in_ok-push.ensures.items
    (rest_kids c.args.run.now c.args.pin.now.term c.args.values.items c.in_ok-kids.kids.items (Some (rest_cause c.args.cut)) c.in_ok-rest_todo.field-0
    c.requires.increasing (rw c.deref.ensures.value at c.in_ok-kids.ensures) c.in_ok-rest_todo.ensures)
