use Rattle.std.proofs.Common.{◌∙◌, ◌/◌, sym, refl}
use Rattle.sym_state.specs.Expressions.{Number}
use Rattle.sym_state.proofs.Opening.{stands-bytes}
use Rattle.sym_machine.proofs.Loads.{carries_loaded, carries_misaligned, carries_unmapped}
use Rattle.sym_machine.proofs.loading.load_at.Goals as goal

pub returns-then-not-is_load_aligned : goal.returns-then-not-is_load_aligned
returns-then-not-is_load_aligned c = λ of is.
    rw c.trapped.ensures (carries_misaligned c.args.state.now of (λ input. c.args.address) is c.args.width c.args.rd (Number c.args.address)
    (λ input stands. sym c.is_load_aligned.ensures ∙ c.if-not-is_load_aligned.true))

pub returns-then-not-is_mapped : goal.returns-then-not-is_mapped
returns-then-not-is_mapped c = λ of is.
    rw c.trapped-then-not-is_mapped.ensures (carries_unmapped c.args.state.now of (λ input. c.args.address) is c.args.width c.args.rd (Number c.args.address)
    (c.args.address / 256) (λ input stands. sym c.if-not-is_load_aligned.ensures) (λ input stands. refl)
    (sym c.is_mapped.ensures ∙ c.if-not-is_mapped.true))

pub returns : goal.returns
returns c = λ of is.
    let s = c.args.state.now in
    let made = c.in_ok-value.ensures.ok in
    carries_loaded s of (λ input. c.args.address) is c.args.width c.args.rd (Number c.args.address)
    (c.args.address / 256) (λ input stands. sym c.if-not-is_load_aligned.ensures) (λ input stands. refl)
    c.loaded.new.state c.go_on_with.new.state c.go_on_with.result c.in_ok-value.value
    (sym c.if-not-is_mapped.ensures) made.grown
    (λ input stands. made.gives.worth input (stands-bytes s input stands))
    c.in_ok-value.ensures.expression c.go_on_with.ensures.running c.go_on_with.ensures.state
