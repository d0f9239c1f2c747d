use Rattle.cert_audit.specs.Steps.{IsParted}
use Rattle.cert_complete.proofs.completing.behind_lines.Goals as goal

pub returns-in-Ok-Fork : goal.returns-in-Ok-Fork
returns-in-Ok-Fork c = λ p part.
    let went = c.in-Ok-Fork.went in
    let is : IsParted c.args.budgets.now c.args.todo c.args.lines.now went.kids.items went.rest.now = rw (c.in-Ok-Fork.is, c.in-Ok-Fork.field-0-is) at c.in_ok-taken.ensures.visited in
    (is.each p part, tt)
