use Rattle.std.proofs.Common.{sym, ap, ◌∙◌}
use Rattle.sym_state.specs.Unfolded.{unfolded}
use Rattle.sym_machine.proofs.Unfolds.{unfolded-written, writes_nothing}
use Rattle.sym_machine.proofs.Calls.{write_done, write_refused}
use Rattle.sym_machine.proofs.call.write_out.Goals as goal

pub returns-then-not-are_mapped-clause-comes : goal.returns-then-not-are_mapped-clause-comes
returns-then-not-are_mapped-clause-comes c =
    rw c.trapped.ensures (write_refused c.args.state.now c.args.start c.args.asked
    (rw c.min-count.ensures at (sym c.are_mapped.ensures ∙ c.if-not-are_mapped.true)))

pub returns-clause-comes : goal.returns-clause-comes
returns-clause-comes c =
    rw (c.go_on_with.ensures.running, c.go_on_with.ensures.state, c.new.ensures)
    (write_done c.args.state.now c.emit.new.state c.args.start c.args.asked c.min-count.result c.min-count.ensures
    (sym c.are_mapped.ensures ∙ c.if-not-are_mapped.false) c.in_ok-emit.ensures)

pub returns-then-not-are_mapped-clause-terms : goal.returns-then-not-are_mapped-clause-terms
returns-then-not-are_mapped-clause-terms c =
    rw (← c.min-count.ensures) (writes_nothing (unfolded c.args.state.now) c.args.start c.min-count.result
    (sym c.are_mapped.ensures ∙ c.if-not-are_mapped.true))

pub returns-clause-terms : goal.returns-clause-terms
returns-clause-terms c =
    rw (← c.min-count.ensures) (ap unfolded (rw c.new.ensures at c.go_on_with.ensures.state)
    ∙ unfolded-written c.args.state.now c.emit.new.state c.args.start c.min-count.result c.in_ok-emit.ensures
    (sym c.are_mapped.ensures ∙ c.if-not-are_mapped.false))
