use Rattle.std.proofs.Common.{◌∙◌, ◌/◌, ap, sym, refl}
use Rattle.sym_state.specs.Expressions.{Number, value_expression}
use Rattle.sym_state.specs.Storing.{stored}
use Rattle.sym_state.specs.Unfolded.{unfolded}
use Rattle.sym_state.specs.Unfolding.{with_put}
use Rattle.sym_machine.proofs.Putting.{Keeps-put}
use Rattle.sym_machine.proofs.Stores.{aligned_as, carries_misaligned, carries_refused, carries_stored, put_is}
use Rattle.sym_machine.proofs.Unfolds.{expression-x}
use Rattle.sym_machine.proofs.storing.store_at.Goals as goal

pub returns-then-not-is_store_aligned : goal.returns-then-not-is_store_aligned
returns-then-not-is_store_aligned c = λ of is.
    rw c.trapped.ensures (carries_misaligned c.args.state.now of (λ input. c.args.address) is c.args.width c.args.rs2 (Number c.args.address)
    (λ input stands. sym (aligned_as c.args.width c.args.address) ∙ sym c.is_store_aligned.ensures ∙ c.if-not-is_store_aligned.true))

pub returns-then-not-can_write : goal.returns-then-not-can_write
returns-then-not-can_write c = λ of is.
    rw c.trapped-then-not-can_write.ensures (carries_refused c.args.state.now of (λ input. c.args.address) is c.args.width c.args.rs2 (Number c.args.address)
    (c.args.address / 256) (λ input stands. sym (aligned_as c.args.width c.args.address) ∙ sym c.if-not-is_store_aligned.ensures) (λ input stands. refl)
    (sym c.can_write.ensures ∙ c.if-not-can_write.true))

pub returns : goal.returns
returns c = λ of is.
    let s = c.args.state.now in
    let puts = c.in_ok-put.ensures.puts in
    carries_stored s of (λ input. c.args.address) is c.args.width c.args.rs2 (Number c.args.address)
    (c.args.address / 256) (λ input stands. sym (aligned_as c.args.width c.args.address) ∙ sym c.if-not-is_store_aligned.ensures) (λ input stands. refl)
    c.put.new.state c.go_on.new.state c.go_on.result (sym c.if-not-can_write.ensures)
    (Keeps-put s c.put.new.state c.args.address _ puts)
    (put_is s c.put.new.state c.args.width c.args.address c.args.rs2 c.value-value.result c.value-value.ensures.value puts)
    (c.in_ok-put.ensures.terms
    ∙ ap (λ e. with_put (unfolded s) c.args.address (stored c.args.width e))
    (ap (value_expression s.terms) c.value-value.ensures.value ∙ sym (expression-x s c.args.rs2)))
    c.go_on.ensures.running c.go_on.ensures.state
