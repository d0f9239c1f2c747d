use Rattle.std.proofs.Common.{arith}
use Rattle.term_simplify.proofs.OffsetReading.{wide_stands, widened_summand}
use Rattle.term_simplify.proofs.Stepping.{if_ok}
use Rattle.term_simplify.proofs.builder.Builder.wide_sum.Goals as goal

pub widened_term-requires-clause-room : goal.widened_term-requires-clause-room
widened_term-requires-clause-room c = omega (arith, c.requires.wide, c.requires.number.at_most_64)

pub sum-requires : goal.sum-requires
sum-requires c =
    let term = c.in_ok-term.ensures.ok in
    widened_summand c.args.self.now c.widened_term.new.self c.args.width c.args.o c.in_ok-term.term c.requires term.there term.tree

pub returns-clause-ok : goal.returns-clause-ok
returns-clause-ok c =
    if_ok _ _ _ c.sum.ensures.ok (λ id n. wide_stands c.args.self.now c.widened_term.new.self c.args.o c.in_ok-term.term c.in_ok-term.ensures.ok.tree n)
