use Rattle.std.proofs.Common.{◌+◌, ◌-◌, ◌∙◌, ap, arith, sym}
use Rattle.bv_dag.specs.Graphs.{val}
use Rattle.bv_dag.proofs.TermLaws.{width-val}
use Rattle.term_simplify.specs.Divisions.{quotient_from, upper_quotient, upper_remainder}
use Rattle.term_simplify.proofs.DivisionNumbers.{quotient_is, start_quotient}
use Rattle.term_simplify.proofs.DivisionSteps.{some_divisor, still_divided}
use Rattle.term_simplify.proofs.RunSteps.{own_word}
use Rattle.term_simplify.proofs.Stepping.{Stands-grown, Stands-kept, Stands-worth, if_ok, three_step}
use Rattle.term_simplify.proofs.builder.Builder.long_quotient.Goals as goal

pub quotient_from-requires-clause-dividend : goal.quotient_from-requires-clause-dividend
quotient_from-requires-clause-dividend c =
    still_divided c.args.d c.plain_step.ensures.continues (still_divided c.args.d c.first_remainder.ensures.continues c.requires.dividend)

pub quotient_from-requires-clause-wide : goal.quotient_from-requires-clause-wide
quotient_from-requires-clause-wide c = (Stands-kept c.plain_step.ensures.continues c.in_ok-first.ensures.ok).width

pub quotient_from-requires-clause-found : goal.quotient_from-requires-clause-found
quotient_from-requires-clause-found c =
    let g = c.args.self.now in
    let d = c.args.d in
    let is = c.requires.dividend in
    let operand = Stands-kept c.plain_step.ensures.continues
    (Stands-grown d.operand d.width c.first_remainder.ensures.continues is.wide (omega (arith, is.some, is.within))) in
    λ input bytes. c.in_ok-zeros.ensures.ok.value input bytes
    ∙ start_quotient d.width d.bits d.divisor (val g d.operand input)
    (own_word g d.operand d.width input bytes c.first_remainder.ensures.term is.wide).in_range is.some is.within is.above
    ∙ ap (upper_quotient d.width (d.width - d.bits + 1) d.divisor) (sym (operand.value input bytes))

pub quotient_from-requires-clause-worth : goal.quotient_from-requires-clause-worth
quotient_from-requires-clause-worth c =
    let g = c.args.self.now in
    let d = c.args.d in
    let is = c.requires.dividend in
    let operand = Stands-kept c.plain_step.ensures.continues
    (Stands-grown d.operand d.width c.first_remainder.ensures.continues is.wide (omega (arith, is.some, is.within))) in
    let first = Stands-kept c.plain_step.ensures.continues c.in_ok-first.ensures.ok in
    λ input bytes. first.value input bytes ∙ ap (upper_remainder d.bits (d.width - d.bits + 1) d.divisor) (sym (operand.value input bytes))

pub returns-clause-ok : goal.returns-clause-ok
returns-clause-ok c =
    let g = c.args.self.now in
    let d = c.args.d in
    let is = c.requires.dividend in
    let operand = Stands-kept c.plain_step.ensures.continues
    (Stands-grown d.operand d.width c.first_remainder.ensures.continues is.wide (omega (arith, is.some, is.within))) in
    let first = Stands-kept c.plain_step.ensures.continues c.in_ok-first.ensures.ok in
    if_ok _ _ _ c.quotient_from.ensures.ok (λ id n.
    Stands-worth (λ input bytes. quotient_is d.width d.divisor (val g d.operand input) (width-val g d.operand input ∙ is.wide) (some_divisor d is))
    (three_step (quotient_from (d.width - d.bits + 1) d.bits d.divisor) (λ x q r. upper_quotient d.width 0 d.divisor x) operand c.in_ok-zeros.ensures.ok first n))
