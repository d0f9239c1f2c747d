use Rattle.std.proofs.Common.{sym, ◌∙◌}
use Rattle.sym_state.proofs.Forms.{grows}
use Rattle.sym_state.proofs.Grown.{Continues-refl}
use Rattle.sym_machine.proofs.Loads.{misaligned_is, misaligned_stands, never_misaligned}
use Rattle.sym_machine.proofs.Standing.{knows-grown}
use Rattle.sym_machine.proofs.loading.is_misaligned.Goals as goal

pub returns-then-mask-eq0-clause-ok : goal.returns-then-mask-eq0-clause-ok
returns-then-mask-eq0-clause-ok c = λ input stands. never_misaligned c.args.width _ (sym c.mask_of-mask.ensures ∙ c.if-mask-eq0.true)

pub returns-then-mask-eq0-clause-grown : goal.returns-then-mask-eq0-clause-grown
returns-then-mask-eq0-clause-grown c = grows c.args.state.now c.args.state.now.terms c.requires.formed (Continues-refl c.args.state.now.terms)

pub number_at-requires-clause-knows : goal.number_at-requires-clause-knows
number_at-requires-clause-knows c = knows-grown _ _ c.in_ok-misaligned.ensures.grown c.requires.knows

pub number_at-requires-clause-stands : goal.number_at-requires-clause-stands
number_at-requires-clause-stands c =
    misaligned_stands c.args.state.now c.any_of.new.state c.args.width c.args.term c.in_ok-misaligned.misaligned
    (rw c.mask_of-mask.ensures at c.if-mask-eq0.false) c.requires.decides (rw c.mask_of-mask.ensures at c.in_ok-misaligned.ensures)

pub returns-clause-ok : goal.returns-clause-ok
returns-clause-ok c =
    misaligned_is c.args.state.now c.any_of.new.state c.args.width c.args.term c.in_ok-number_at.field-0 c.in_ok-misaligned.misaligned
    (rw c.mask_of-mask.ensures at c.if-mask-eq0.false) (rw c.mask_of-mask.ensures at c.in_ok-misaligned.ensures) c.in_ok-number_at.ensures.ok
