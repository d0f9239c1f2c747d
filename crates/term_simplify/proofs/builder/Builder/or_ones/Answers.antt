use Rattle.std.proofs.Common.{arith, sym, ◌∙◌}
use Rattle.bv_dag.specs.declared.nodes.Comparison.TheVariants.{Eq}
use Rattle.term_simplify.proofs.Stepping.{Stands-kept, Stands-grown, if_ok, compare_step, ite_step}
use Rattle.term_simplify.proofs.builder.Builder.or_ones.Goals as goal

pub step-requires-2 : goal.step-requires-2
step-requires-2 c =
    let divisor = Stands-grown c.args.divisor 32 c.step.ensures.continues c.requires.divisor (omega arith) in
    (omega (arith, divisor.width), divisor.width ∙ sym c.in_ok-zero.ensures.ok.width)

pub step-requires-4 : goal.step-requires-4
step-requires-4 c =
    let divisor = Stands-grown c.args.divisor 32 c.step.ensures.continues c.requires.divisor (omega arith) in
    let by_zero = compare_step Eq divisor c.in_ok-zero.ensures.ok c.in_ok-by_zero.ensures.ok in
    let by_zero_then = Stands-kept c.step-3.ensures.continues by_zero in
    let quotient = Stands-kept c.step-3.ensures.continues (Stands-kept c.step-2.ensures.continues (Stands-grown c.args.quotient 32 c.step.ensures.continues c.requires.quotient (omega arith))) in
    (by_zero_then.width, omega (arith, c.in_ok-ones.ensures.ok.width), c.in_ok-ones.ensures.ok.width ∙ sym quotient.width)

pub returns-clause-ok : goal.returns-clause-ok
returns-clause-ok c =
    let divisor = Stands-grown c.args.divisor 32 c.step.ensures.continues c.requires.divisor (omega arith) in
    let by_zero = compare_step Eq divisor c.in_ok-zero.ensures.ok c.in_ok-by_zero.ensures.ok in
    let by_zero_then = Stands-kept c.step-3.ensures.continues by_zero in
    let quotient = Stands-kept c.step-3.ensures.continues (Stands-kept c.step-2.ensures.continues (Stands-grown c.args.quotient 32 c.step.ensures.continues c.requires.quotient (omega arith))) in
    if_ok _ _ _ c.step-4.ensures.ok (λ id n. ite_step by_zero_then c.in_ok-ones.ensures.ok quotient n)
