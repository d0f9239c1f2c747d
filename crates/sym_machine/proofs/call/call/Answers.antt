use Rattle.std.proofs.Common.{sym, ◌∙◌}
use Rattle.sym_machine.proofs.Calls.{count_next, exits, file_next, no_file, no_such_call, number_first, start_next, writes}
use Rattle.sym_machine.proofs.call.call.Goals as goal

pub needs-requires-clause-stands : goal.needs-requires-clause-stands
needs-requires-clause-stands c = rw c.new.ensures (number_first c.args.state.now c.requires.decides)

pub returns-then-number-eq-EXIT-clause-ok : goal.returns-then-number-eq-EXIT-clause-ok
returns-then-number-eq-EXIT-clause-ok c =
    exits c.args.state.now (rw (c.new.ensures, c.if-number-eq-EXIT.true) at c.in_ok-number.ensures.ok)

pub returns-then-number-ne-WRITE-clause-ok : goal.returns-then-number-ne-WRITE-clause-ok
returns-then-number-ne-WRITE-clause-ok c =
    rw c.trapped.ensures (no_such_call c.args.state.now c.in_ok-number.number (rw c.new.ensures at c.in_ok-number.ensures.ok)
    c.if-number-eq-EXIT.false c.if-number-ne-WRITE.true)

pub needs-requires-2-clause-stands : goal.needs-requires-2-clause-stands
needs-requires-2-clause-stands c =
    rw c.new-2.ensures (file_next c.args.state.now c.requires.decides
    (rw (c.new.ensures, c.if-number-ne-WRITE.false) at c.in_ok-number.ensures.ok))

pub returns-then-not-is_file-clause-ok : goal.returns-then-not-is_file-clause-ok
returns-then-not-is_file-clause-ok c =
    rw c.trapped-then-not-is_file.ensures (no_file c.args.state.now c.in_ok-file.file
    (rw (c.new.ensures, c.if-number-ne-WRITE.false) at c.in_ok-number.ensures.ok)
    (rw c.new-2.ensures at c.in_ok-file.ensures.ok) (sym c.is_file.ensures ∙ c.if-not-is_file.true))

pub needs-requires-3-clause-stands : goal.needs-requires-3-clause-stands
needs-requires-3-clause-stands c =
    rw c.new-3.ensures (start_next c.args.state.now c.requires.decides c.in_ok-file.file
    (rw (c.new.ensures, c.if-number-ne-WRITE.false) at c.in_ok-number.ensures.ok)
    (rw c.new-2.ensures at c.in_ok-file.ensures.ok) (sym c.is_file.ensures ∙ c.if-not-is_file.false))

pub needs-requires-4-clause-stands : goal.needs-requires-4-clause-stands
needs-requires-4-clause-stands c =
    rw c.new-4.ensures (count_next c.args.state.now c.requires.decides c.in_ok-file.file c.in_ok-start.start
    (rw (c.new.ensures, c.if-number-ne-WRITE.false) at c.in_ok-number.ensures.ok)
    (rw c.new-2.ensures at c.in_ok-file.ensures.ok) (sym c.is_file.ensures ∙ c.if-not-is_file.false)
    (rw c.new-3.ensures at c.in_ok-start.ensures.ok))

pub returns-clause-ok : goal.returns-clause-ok
returns-clause-ok c =
    writes c.args.state.now c.write_out.new.state c.in_ok-step.step c.in_ok-file.file c.in_ok-start.start c.in_ok-count.count
    (rw (c.new.ensures, c.if-number-ne-WRITE.false) at c.in_ok-number.ensures.ok)
    (rw c.new-2.ensures at c.in_ok-file.ensures.ok) (sym c.is_file.ensures ∙ c.if-not-is_file.false)
    (rw c.new-3.ensures at c.in_ok-start.ensures.ok) (rw c.new-4.ensures at c.in_ok-count.ensures.ok) c.in_ok-step.ensures.comes c.in_ok-step.ensures.terms
