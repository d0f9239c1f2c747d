use Rattle.std.proofs.Common.{◌∙◌, arith, false, sym}
use Rattle.bv_dag.specs.BitVectors.{bvadd, equal}
use Rattle.bv_dag.specs.declared.nodes.Comparison.TheVariants.{Eq}
use Rattle.term_simplify.specs.Offsets.{sum_at}
use Rattle.term_simplify.specs.Simplified.{compared, summed}
use Rattle.term_simplify.proofs.PairReading.{wide_kept, wide_later}
use Rattle.term_simplify.proofs.Stepping.{Stands-kept, at_width, if_ok, one_step, two_step}
use Rattle.term_simplify.proofs.builder.Builder.balance.Goals as goal

pub widened_term-requires-2-clause-some : goal.widened_term-requires-2-clause-some
widened_term-requires-2-clause-some c =
    (wide_kept c.args.self.now c.widened_term.new.self c.args.width c.args.b.second c.widened_term.ensures.continues c.requires.second).some

pub widened_term-requires-2-clause-room : goal.widened_term-requires-2-clause-room
widened_term-requires-2-clause-room c =
    let is = wide_kept c.args.self.now c.widened_term.new.self c.args.width c.args.b.second c.widened_term.ensures.continues c.requires.second in
    omega (arith, is.wide, is.number.at_most_64)

pub sum-requires : goal.sum-requires
sum-requires c =
    let term = wide_later c.args.self.now c.widened_term.new.self c.args.width c.args.b.second c.widened_term.ensures.continues c.requires.second c.in_ok-term.ensures.ok in
    record { there = term.there; wide = term.width; number = c.requires.number }

pub untold_step-requires : goal.untold_step-requires
untold_step-requires c =
    let first = Stands-kept c.sum.ensures.continues (Stands-kept c.widened_term-2.ensures.continues (at_width c.requires.first.wide c.in_ok-first.ensures.ok)) in
    (omega (arith, first.width, c.requires.number.not_empty), first.width ∙ sym c.in_ok-sum.ensures.ok.width)

pub returns-clause-ok : goal.returns-clause-ok
returns-clause-ok c =
    let b = c.args.b in
    let first = Stands-kept c.sum.ensures.continues (Stands-kept c.widened_term-2.ensures.continues (at_width c.requires.first.wide c.in_ok-first.ensures.ok)) in
    let second = wide_later c.args.self.now c.widened_term.new.self c.args.width b.second c.widened_term.ensures.continues c.requires.second c.in_ok-term.ensures.ok in
    let sum = one_step (λ t. summed (sum_at false t b.number)) (λ v. bvadd v b.number) second c.in_ok-sum.ensures.ok in
    if_ok _ _ _ c.untold_step.ensures.ok (λ id n. two_step (compared Eq) equal first sum n)
