use Rattle.std.proofs.Common.{arith, sym, ◌∙◌}
use Rattle.term_simplify.proofs.Stepping.{Stands-itself, Stands-grown, if_ok, neg_step, ite_step}
use Rattle.term_simplify.proofs.builder.Builder.with_sign.Goals as goal

pub step-requires-2 : goal.step-requires-2
step-requires-2 c =
    let bit = Stands-grown c.args.bit 1 c.step.ensures.continues c.requires.bit (omega arith) in
    let whole = Stands-grown c.args.a 32 c.step.ensures.continues c.requires.whole (omega arith) in
    let opposite = neg_step (Stands-itself c.args.self.now c.args.a 32 c.requires.whole (omega arith)) c.in_ok-opposite.ensures.ok in
    (bit.width, omega (arith, opposite.width), opposite.width ∙ sym whole.width)

pub returns-clause-ok : goal.returns-clause-ok
returns-clause-ok c =
    let bit = Stands-grown c.args.bit 1 c.step.ensures.continues c.requires.bit (omega arith) in
    let whole = Stands-grown c.args.a 32 c.step.ensures.continues c.requires.whole (omega arith) in
    let opposite = neg_step (Stands-itself c.args.self.now c.args.a 32 c.requires.whole (omega arith)) c.in_ok-opposite.ensures.ok in
    if_ok _ _ _ c.step-2.ensures.ok (λ id n. ite_step bit opposite whole n)
