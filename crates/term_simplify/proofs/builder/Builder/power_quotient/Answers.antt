use Rattle.std.proofs.Common.{◌-◌, false, arith}
use Rattle.bv_dag.specs.Graphs.{val}
use Rattle.term_simplify.proofs.DivisionNumbers.{power_quotient}
use Rattle.term_simplify.proofs.RunSteps.{own_word}
use Rattle.term_simplify.proofs.Stepping.{Stands-worth, at_width, extend_step, if_ok}
use Rattle.term_simplify.proofs.Words.{is_number}
use Rattle.term_simplify.proofs.builder.Builder.power_quotient.Goals as goal

pub returns-clause-ok : goal.returns-clause-ok
returns-clause-ok c =
    let g = c.args.self.now in
    let d = c.args.d in
    let is = c.requires.dividend in
    if_ok _ _ _ c.plain_step-2.ensures.ok (λ id n. at_width (omega (arith, is.some, is.within))
    (Stands-worth (λ input bytes.
    let x = own_word g d.operand d.width input bytes c.plain_step.ensures.term.0 is.wide in
    power_quotient d.width (d.bits - 1) d.divisor (val g d.operand input) x.width x.in_range
    (omega (arith, is.some)) (omega (arith, is.some, is.within)) (is_number _ _ c.requires.power))
    (extend_step (d.bits - 1) false c.in_ok-upper.ensures.ok n)))
