use Rattle.std.proofs.Common.{◌∙◌, arith, refl, sym}
use Rattle.bv_dag.specs.BitVectors.{bvnot, bvult}
use Rattle.bv_dag.specs.Graphs.{width_of}
use Rattle.bv_dag.specs.Nodes.{binary}
use Rattle.term_simplify.specs.Intervals.{joining}
use Rattle.term_simplify.specs.Plain.{complement_of, plain_binary}
use Rattle.term_simplify.specs.Simplified.{below_number}
use Rattle.term_simplify.proofs.Intervening.{interval_joined, interval_open}
use Rattle.term_simplify.proofs.Stepping.{Stands-grown, Stands-kept, at_width, if_ok, one_step, two_step}
use Rattle.term_simplify.proofs.builder.Builder.between.Goals as goal

pub plain_step-requires : goal.plain_step-requires
plain_step-requires c = omega (arith, c.in_ok-under.ensures.ok.width)

pub returns-then-number-eq0-clause-ok : goal.returns-then-number-eq0-clause-ok
returns-then-number-eq0-clause-ok c =
    let under = c.in_ok-under.ensures.ok in
    interval_open c.args.self.now c.args.b (sym c.number.ensures.value ∙ c.if-number-eq0.true)
    (at_width under.width (one_step complement_of bvnot under c.in_ok-from.ensures.ok))

pub below-requires-2 : goal.below-requires-2
below-requires-2 c =
    let b = c.args.b in
    let term = Stands-kept c.plain_step.ensures.continues
    (Stands-grown b.term (width_of c.args.self.now b.term) c.below.ensures.continues refl c.requires.high.not_empty) in
    rw term.width c.requires.high

pub plain_step-requires-2 : goal.plain_step-requires-2
plain_step-requires-2 c =
    let under = c.in_ok-under.ensures.ok in
    let from = Stands-kept c.below-2.ensures.continues c.in_ok-from.ensures.ok in
    (omega (arith, from.width, under.width), omega (arith, from.width, under.width, c.in_ok-to.ensures.ok.width))

pub returns-clause-ok : goal.returns-clause-ok
returns-clause-ok c =
    let g = c.args.self.now in
    let b = c.args.b in
    let under = c.in_ok-under.ensures.ok in
    let from = Stands-kept c.below-2.ensures.continues (at_width under.width (one_step complement_of bvnot under c.in_ok-from.ensures.ok)) in
    let term = Stands-kept c.plain_step.ensures.continues
    (Stands-grown b.term (width_of g b.term) c.below.ensures.continues refl c.requires.high.not_empty) in
    let to = one_step (λ t. below_number t b.high) (λ v. bvult v b.high) term c.in_ok-to.ensures.ok in
    let op = joining b.low b.high in
    if_ok _ _ _ c.plain_step-2.ensures.ok (λ id n. interval_joined g b (λ e. c.if-number-eq0.false (c.number.ensures.value ∙ e))
    (at_width from.width (two_step (plain_binary op) (binary op) from to (rw c.joining.ensures at n))))
