use Rattle.std.proofs.Common.{arith, sym, ◌∙◌}
use Rattle.bv_dag.specs.declared.nodes.BinaryOp.TheVariants.{Udiv, Xor}
use Rattle.term_simplify.proofs.Stepping.{Stands-kept, Stands-grown, if_ok, sign_step, magnitude_step, binary_step, signed_step, term_before, on_ok}
use Rattle.term_simplify.proofs.builder.Builder.signed_quotient.Goals as goal

pub parts-requires-2 : goal.parts-requires-2
parts-requires-2 c =
    let later = Stands-grown c.args.b 32 c.parts.ensures.continues c.requires.second (omega arith) in
    later.width

pub step-requires : goal.step-requires
step-requires c =
    let later = Stands-grown c.args.b 32 c.parts.ensures.continues c.requires.second (omega arith) in
    let first = Stands-kept c.parts-2.ensures.continues c.in_ok-dividend.ensures.magnitude in
    let second = magnitude_step later c.in_ok-divisor.ensures.magnitude in
    (omega (arith, first.width), first.width ∙ sym second.width)

pub step-requires-2 : goal.step-requires-2
step-requires-2 c =
    let later = Stands-grown c.args.b 32 c.parts.ensures.continues c.requires.second (omega arith) in
    let first_sign = Stands-kept c.step.ensures.continues (Stands-kept c.parts-2.ensures.continues c.in_ok-dividend.ensures.negative) in
    let second_sign = Stands-kept c.step.ensures.continues (sign_step later c.in_ok-divisor.ensures.negative) in
    (omega (arith, first_sign.width), first_sign.width ∙ sym second_sign.width)

pub with_sign-requires-clause-bit : goal.with_sign-requires-clause-bit
with_sign-requires-clause-bit c =
    let later = Stands-grown c.args.b 32 c.parts.ensures.continues c.requires.second (omega arith) in
    let first_sign = Stands-kept c.step.ensures.continues (Stands-kept c.parts-2.ensures.continues c.in_ok-dividend.ensures.negative) in
    let second_sign = Stands-kept c.step.ensures.continues (sign_step later c.in_ok-divisor.ensures.negative) in
    let differ = binary_step Xor first_sign second_sign c.in_ok-differ.ensures.ok in
    differ.width

pub with_sign-requires-clause-whole : goal.with_sign-requires-clause-whole
with_sign-requires-clause-whole c =
    let later = Stands-grown c.args.b 32 c.parts.ensures.continues c.requires.second (omega arith) in
    let first = Stands-kept c.parts-2.ensures.continues c.in_ok-dividend.ensures.magnitude in
    let second = magnitude_step later c.in_ok-divisor.ensures.magnitude in
    let quotient = Stands-kept c.step-2.ensures.continues (binary_step Udiv first second c.in_ok-quotient.ensures.ok) in
    quotient.width

pub returns-clause-second : goal.returns-clause-second
returns-clause-second c =
    on_ok _ (term_before c.args.b 32 c.parts.ensures.continues c.requires.second (omega arith) c.parts-2.ensures.term)

pub returns-clause-ok : goal.returns-clause-ok
returns-clause-ok c =
    let later = Stands-grown c.args.b 32 c.parts.ensures.continues c.requires.second (omega arith) in
    let first = Stands-kept c.parts-2.ensures.continues c.in_ok-dividend.ensures.magnitude in
    let second = magnitude_step later c.in_ok-divisor.ensures.magnitude in
    let first_sign = Stands-kept c.step.ensures.continues (Stands-kept c.parts-2.ensures.continues c.in_ok-dividend.ensures.negative) in
    let second_sign = Stands-kept c.step.ensures.continues (sign_step later c.in_ok-divisor.ensures.negative) in
    let quotient = Stands-kept c.step-2.ensures.continues (binary_step Udiv first second c.in_ok-quotient.ensures.ok) in
    let differ = binary_step Xor first_sign second_sign c.in_ok-differ.ensures.ok in
    if_ok _ _ _ c.with_sign.ensures.ok (λ id n. signed_step differ quotient n)
