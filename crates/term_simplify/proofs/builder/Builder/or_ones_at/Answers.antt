use Rattle.std.proofs.Common.{◌≡◌, ◌-◌, ◌^◌, ◌∙◌, ap, arith, sym}
use Rattle.bv_dag.specs.BitVectors.{BitVector, ite}
use Rattle.bv_dag.specs.Nodes.{compare}
use Rattle.bv_dag.specs.declared.nodes.Comparison.TheVariants.{Eq}
use Rattle.term_simplify.specs.Simplified.{choice_of, undecided}
use Rattle.term_simplify.proofs.Stepping.{Stands-grown, Stands-kept, at_width, if_ok, three_step, two_step}
use Rattle.term_simplify.proofs.builder.Builder.or_ones_at.Goals as goal

pub test_step-requires : goal.test_step-requires
test_step-requires c =
    let divisor = Stands-grown c.args.divisor c.args.n.bits c.plain_step.ensures.continues c.requires.divisor c.requires.fewer.some in
    (omega (arith, divisor.width, c.requires.fewer.some), divisor.width ∙ sym c.in_ok-zero.ensures.ok.width)

pub choice_step-requires : goal.choice_step-requires
choice_step-requires c =
    let divisor = Stands-grown c.args.divisor c.args.n.bits c.plain_step.ensures.continues c.requires.divisor c.requires.fewer.some in
    let by_zero = Stands-kept c.plain_step-2.ensures.continues (two_step (undecided Eq) (compare Eq) divisor c.in_ok-zero.ensures.ok c.in_ok-by_zero.ensures.ok) in
    let quotient = Stands-kept c.plain_step-2.ensures.continues (Stands-kept c.test_step.ensures.continues
    (Stands-grown c.args.quotient c.args.width c.plain_step.ensures.continues c.requires.quotient (omega (arith, c.requires.fewer.fewer)))) in
    let ones = c.in_ok-ones.ensures.ok in
    (by_zero.width, omega (arith, ones.width, c.requires.fewer.fewer), ones.width ∙ sym quotient.width)

pub returns-clause-ok : goal.returns-clause-ok
returns-clause-ok c =
    let divisor = Stands-grown c.args.divisor c.args.n.bits c.plain_step.ensures.continues c.requires.divisor c.requires.fewer.some in
    let by_zero = Stands-kept c.plain_step-2.ensures.continues (two_step (undecided Eq) (compare Eq) divisor c.in_ok-zero.ensures.ok c.in_ok-by_zero.ensures.ok) in
    let quotient = Stands-kept c.plain_step-2.ensures.continues (Stands-kept c.test_step.ensures.continues
    (Stands-grown c.args.quotient c.args.width c.plain_step.ensures.continues c.requires.quotient (omega (arith, c.requires.fewer.fewer)))) in
    let most : 2 ^ c.args.width - 1 ≡ c.number.result = sym (c.number.ensures.value ∙ ap (λ (v : BitVector). v.number) c.ones.ensures) in
    rw most (if_ok _ _ _ c.choice_step.ensures.ok
    (λ id n. at_width c.in_ok-ones.ensures.ok.width (three_step choice_of ite by_zero c.in_ok-ones.ensures.ok quotient n)))
