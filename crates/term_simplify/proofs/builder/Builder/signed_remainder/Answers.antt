use Rattle.std.proofs.Common.{arith, sym, ◌∙◌}
use Rattle.bv_dag.specs.declared.nodes.BinaryOp.TheVariants.{Urem}
use Rattle.term_simplify.proofs.Stepping.{as_remainder, Stands-kept, Stands-grown, if_ok, magnitude_step, binary_step, signed_step, term_before, Stands-worth, of_32}
use Rattle.term_simplify.proofs.MachineNumbers.{remainder_number}
use Rattle.term_simplify.proofs.builder.Builder.signed_remainder.Goals as goal

pub parts-requires-2 : goal.parts-requires-2
parts-requires-2 c =
    let later = Stands-grown c.args.b 32 c.parts.ensures.continues c.requires.second (omega arith) in
    later.width

pub step-requires : goal.step-requires
step-requires c =
    let later = Stands-grown c.args.b 32 c.parts.ensures.continues c.requires.second (omega arith) in
    let first = Stands-kept c.parts-2.ensures.continues c.in_ok-dividend.ensures.magnitude in
    let second = magnitude_step later c.in_ok-divisor.ensures.magnitude in
    (omega (arith, first.width), first.width ∙ sym second.width)

pub with_sign-requires-clause-bit : goal.with_sign-requires-clause-bit
with_sign-requires-clause-bit c =
    let sign = Stands-kept c.step.ensures.continues (Stands-kept c.parts-2.ensures.continues c.in_ok-dividend.ensures.negative) in
    sign.width

pub with_sign-requires-clause-whole : goal.with_sign-requires-clause-whole
with_sign-requires-clause-whole c =
    let later = Stands-grown c.args.b 32 c.parts.ensures.continues c.requires.second (omega arith) in
    let first = Stands-kept c.parts-2.ensures.continues c.in_ok-dividend.ensures.magnitude in
    let second = magnitude_step later c.in_ok-divisor.ensures.magnitude in
    let remainder = binary_step Urem first second c.in_ok-remainder.ensures.ok in
    remainder.width

pub returns-clause-ok : goal.returns-clause-ok
returns-clause-ok c =
    let later = Stands-grown c.args.b 32 c.parts.ensures.continues c.requires.second (omega arith) in
    let first = Stands-kept c.parts-2.ensures.continues c.in_ok-dividend.ensures.magnitude in
    let second = magnitude_step later c.in_ok-divisor.ensures.magnitude in
    let remainder = binary_step Urem first second c.in_ok-remainder.ensures.ok in
    let sign = Stands-kept c.step.ensures.continues (Stands-kept c.parts-2.ensures.continues c.in_ok-dividend.ensures.negative) in
    if_ok _ _ _ c.with_sign.ensures.ok (λ id n. Stands-worth
    (λ input bytes. remainder_number _ _ (of_32 c.args.self.now c.args.a input bytes
    c.parts.ensures.term c.requires.first) (of_32 c.args.self.now c.args.b input bytes
    (term_before c.args.b 32 c.parts.ensures.continues c.requires.second (omega arith)
    c.parts-2.ensures.term) c.requires.second)) (as_remainder _ _ (signed_step sign remainder n)))
