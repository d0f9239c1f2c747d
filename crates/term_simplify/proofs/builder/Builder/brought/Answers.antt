use Rattle.std.proofs.Common.{◌<◌, arith}
use Rattle.term_simplify.proofs.Stepping.{Stands-grown, at_width, concat_step, if_ok}
use Rattle.term_simplify.proofs.builder.Builder.brought.Goals as goal

pub plain_step-requires-2 : goal.plain_step-requires-2
plain_step-requires-2 c =
    let some : 0 < c.args.d.bits = omega (arith, c.requires.dividend.some) in
    let remainder = Stands-grown c.args.remainder c.args.d.bits c.plain_step.ensures.continues c.requires.remainder some in
    let bit = c.in_ok-bit.ensures.ok in
    (omega (arith, remainder.width, some), omega (arith, bit.width), omega (arith, remainder.width, bit.width, c.requires.few))

pub returns-clause-ok : goal.returns-clause-ok
returns-clause-ok c =
    let some : 0 < c.args.d.bits = omega (arith, c.requires.dividend.some) in
    let remainder = Stands-grown c.args.remainder c.args.d.bits c.plain_step.ensures.continues c.requires.remainder some in
    if_ok _ _ _ c.plain_step-2.ensures.ok (λ id n. at_width (omega arith) (concat_step remainder c.in_ok-bit.ensures.ok n))
