use Rattle.std.proofs.Common.{◌≡◌, ◌+◌, ◌-◌, ◌∙◌, ap, arith, false, sym}
use Rattle.bv_dag.specs.Graphs.{val}
use Rattle.bv_dag.specs.Nodes.{extend}
use Rattle.bv_dag.proofs.TermLaws.{width-val}
use Rattle.term_simplify.specs.Divisions.{remainder_from, upper_remainder}
use Rattle.term_simplify.specs.Plain.{further}
use Rattle.term_simplify.proofs.DivisionNumbers.{remainder_is}
use Rattle.term_simplify.proofs.DivisionSteps.{some_divisor, still_divided}
use Rattle.term_simplify.proofs.Stepping.{Stands-grown, Stands-worth, at_width, if_ok, one_step, two_step}
use Rattle.term_simplify.proofs.builder.Builder.long_remainder.Goals as goal

pub remainder_from-requires-clause-dividend : goal.remainder_from-requires-clause-dividend
remainder_from-requires-clause-dividend c = still_divided c.args.d c.first_remainder.ensures.continues c.requires.dividend

pub remainder_from-requires-clause-worth : goal.remainder_from-requires-clause-worth
remainder_from-requires-clause-worth c =
    let d = c.args.d in
    let is = c.requires.dividend in
    let operand = Stands-grown d.operand d.width c.first_remainder.ensures.continues is.wide (omega (arith, is.some, is.within)) in
    λ input bytes. c.in_ok-first.ensures.ok.value input bytes
    ∙ ap (upper_remainder d.bits (d.width - d.bits + 1) d.divisor) (sym (operand.value input bytes))

pub returns-clause-ok : goal.returns-clause-ok
returns-clause-ok c =
    let g = c.args.self.now in
    let d = c.args.d in
    let is = c.requires.dividend in
    let by = d.width - d.bits in
    let operand = Stands-grown d.operand d.width c.first_remainder.ensures.continues is.wide (omega (arith, is.some, is.within)) in
    let last = two_step (remainder_from (d.width - d.bits + 1) d.bits d.divisor) (λ x r. upper_remainder d.bits 0 d.divisor x) operand
    c.in_ok-first.ensures.ok c.in_ok-remainder.ensures.ok in
    let all : d.bits + by ≡ d.width = omega (arith, is.within) in
    if_ok _ _ _ c.filled.ensures.ok (λ id n. at_width (ap (λ k. k + by) last.width ∙ all)
    (Stands-worth (λ input bytes. remainder_is d.width d.divisor (val g d.operand input) (width-val g d.operand input ∙ is.wide) (some_divisor d is) d.bits is.within)
    (one_step (further by false) (extend false by) last n)))
