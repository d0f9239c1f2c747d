use Rattle.std.proofs.Common.{◌∙◌, arith, sym}
use Rattle.bv_dag.specs.Nodes.{binary}
use Rattle.term_simplify.specs.Offsets.{offset_word, sum_at}
use Rattle.term_simplify.specs.Simplified.{narrowed, summed}
use Rattle.term_simplify.proofs.PairReading.{wide_kept, wide_later}
use Rattle.term_simplify.proofs.Stepping.{Stands-kept, at_width, if_ok, one_step, two_step}
use Rattle.term_simplify.proofs.builder.Builder.paired.Goals as goal

pub widened_term-requires-2-clause-some : goal.widened_term-requires-2-clause-some
widened_term-requires-2-clause-some c =
    (wide_kept c.args.self.now c.widened_term.new.self c.args.width c.args.p.second c.widened_term.ensures.continues c.requires.second).some

pub widened_term-requires-2-clause-room : goal.widened_term-requires-2-clause-room
widened_term-requires-2-clause-room c =
    let is = wide_kept c.args.self.now c.widened_term.new.self c.args.width c.args.p.second c.widened_term.ensures.continues c.requires.second in
    omega (arith, is.wide, is.number.at_most_64)

pub unsummed_step-requires : goal.unsummed_step-requires
unsummed_step-requires c =
    let g = c.args.self.now in
    let first = Stands-kept c.widened_term-2.ensures.continues (at_width c.requires.first.wide c.in_ok-first.ensures.ok) in
    let second = wide_later g c.widened_term.new.self c.args.width c.args.p.second c.widened_term.ensures.continues c.requires.second c.in_ok-second.ensures.ok in
    (omega (arith, first.width, c.requires.number.not_empty), first.width ∙ sym second.width)

pub sum-requires : goal.sum-requires
sum-requires c =
    let first = Stands-kept c.widened_term-2.ensures.continues (at_width c.requires.first.wide c.in_ok-first.ensures.ok) in
    let term = c.in_ok-term.ensures.ok in
    record { there = term.there; wide = term.width ∙ first.width; number = c.requires.number }

pub returns-clause-ok : goal.returns-clause-ok
returns-clause-ok c =
    let g = c.args.self.now in
    let p = c.args.p in
    let first = Stands-kept c.widened_term-2.ensures.continues (at_width c.requires.first.wide c.in_ok-first.ensures.ok) in
    let second = wide_later g c.widened_term.new.self c.args.width p.second c.widened_term.ensures.continues c.requires.second c.in_ok-second.ensures.ok in
    let term = two_step (narrowed p.op) (binary p.op) first second c.in_ok-term.ensures.ok in
    if_ok _ _ _ c.sum.ensures.ok (λ id n. one_step (λ t. summed (sum_at p.taken t p.number)) (λ v. offset_word p.taken v p.number) term n)
