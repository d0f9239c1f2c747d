use Rattle.cert_audit.specs.Steps.{IsParted}
use Rattle.cert_complete.proofs.completing.behind_filling.Goals as goal

pub returns : goal.returns
returns c = λ p part.
    let went = c.in-Ok-Fork.went in
    let is : IsParted c.args.budgets.now c.args.todo c.args.filling.lines.items went.kids.items went.rest.now =
    rw (c.deref.ensures.value, c.in-Ok-Fork.is, c.in-Ok-Fork.field-0-is) at c.in_ok-went.ensures.visited in
    (is.each p part, record { todo = c.args.todo; kids = went.kids.items; rest = went.rest.now; is_part = part; parted = is })
