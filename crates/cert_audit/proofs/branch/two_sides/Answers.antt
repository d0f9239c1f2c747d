use Rattle.cert_audit.specs.Kids.{cut_if}
use Rattle.cert_audit.proofs.Parting.{branch_kids}
use Rattle.cert_audit.proofs.branch.two_sides.Goals as goal

pub returns : goal.returns
returns c =
    rw (c.in_ok-push-2.ensures.items, c.in_ok-push.ensures.items, c.in_ok-kids.ensures.items, c.in-Some.ensures.are)
    (branch_kids c.args.run.now c.args.term (cut_if c.in-Some.is_no_cut) (cut_if c.in-Some.is_yes_cut) c.in_ok-side_todo.field-0 c.in_ok-side_todo-2.field-0
    c.in_ok-side_todo.ensures c.in_ok-side_todo-2.ensures)
