use Rattle.std.proofs.Common.{◌-◌, arith, refl, subst, sym}
use Rattle.sym_state.specs.Selecting.{AreBitsOf, PushesBits}
use Rattle.std.specs.Prelude.{OnOk}
use Rattle.sym_state.proofs.Growing.{width-kept}
use Rattle.sym_state.proofs.Leading.{pushed_bits, pushes_more}
use Rattle.sym_state.proofs.selecting.+push_bits.Goals as goal

pub overflow_add-first : goal.overflow_add-first
overflow_add-first t c = omega (arith, c.requires.few)

pub push_bits-requires : goal.push_bits-requires
push_bits-requires t c =
    let made = c.in_ok-bit.ensures.ok in
    let there = c.requires.within in
    let count = c.if-count-eq0.false in
    let same = width-kept _ _ c.args.term _ made.continues refl (omega (arith, there, count)) in (
      omega (arith, c.decreases, count),
      (
        omega (arith, there, same),
        (
          omega (arith, c.requires.few),
          subst (AreBitsOf c.bit_at.new.terms) (sym c.in_ok-push.ensures.items)
              (pushed_bits c.args.terms.now c.bit_at.new.terms c.args.bits.now.items c.in_ok-bit.bit made.continues c.requires.bits made.is_bit),
        ),
      ),
    )

pub returns-clause-ok : goal.returns-clause-ok
returns-clause-ok t c =
    pushes_more c.args.terms.now c.bit_at.new.terms c.push_bits.new.terms c.push_bits.result c.args.bits.now.items c.push_bits.new.bits.items
    c.in_ok-bit.bit c.args.term c.args.first c.args.count c.if-count-eq0.false c.requires.within c.in_ok-bit.ensures.ok c.in_ok-bit.ensures.expression
    c.push_bits.ensures.continues
    (subst (λ items. OnOk c.push_bits.result (PushesBits c.bit_at.new.terms c.push_bits.new.terms items c.push_bits.new.bits.items c.args.term c.args.first (c.args.count - 1)))
    c.in_ok-push.ensures.items c.push_bits.ensures.ok)
