use Rattle.std.proofs.Common.{arith, ◌∙◌}
use Rattle.bv_dag.proofs.TermLaws.{width-val}
use Rattle.term_simplify.proofs.OperationNumbers.{word_number}
use Rattle.term_simplify.proofs.Stepping.{Stands-itself, Stands-kept, Stands-grown, Stands-worth, if_ok, concat_step}
use Rattle.term_simplify.proofs.builder.Builder.four_bytes.Goals as goal

pub step-requires-2 : goal.step-requires-2
step-requires-2 c =
    let second = Stands-grown c.args.b2 8 c.step.ensures.continues c.requires.b2 (omega arith) in
    let third = Stands-grown c.args.b3 8 c.step.ensures.continues c.requires.b3 (omega arith) in
    (omega (arith, third.width), omega (arith, second.width), omega (arith, second.width, third.width))

pub step-requires-3 : goal.step-requires-3
step-requires-3 c =
    let second = Stands-grown c.args.b2 8 c.step.ensures.continues c.requires.b2 (omega arith) in
    let third = Stands-grown c.args.b3 8 c.step.ensures.continues c.requires.b3 (omega arith) in
    let high = concat_step third second c.in_ok-high.ensures.ok in
    let zeroth = Stands-itself c.args.self.now c.args.b0 8 c.requires.b0 (omega arith) in
    let first = Stands-itself c.args.self.now c.args.b1 8 c.requires.b1 (omega arith) in
    let low = Stands-kept c.step-2.ensures.continues (concat_step first zeroth c.in_ok-low.ensures.ok) in
    (omega (arith, high.width), omega (arith, low.width), omega (arith, low.width, high.width))

pub returns-clause-ok : goal.returns-clause-ok
returns-clause-ok c =
    let second = Stands-grown c.args.b2 8 c.step.ensures.continues c.requires.b2 (omega arith) in
    let third = Stands-grown c.args.b3 8 c.step.ensures.continues c.requires.b3 (omega arith) in
    let high = concat_step third second c.in_ok-high.ensures.ok in
    let zeroth = Stands-itself c.args.self.now c.args.b0 8 c.requires.b0 (omega arith) in
    let first = Stands-itself c.args.self.now c.args.b1 8 c.requires.b1 (omega arith) in
    let low = Stands-kept c.step-2.ensures.continues (concat_step first zeroth c.in_ok-low.ensures.ok) in
    if_ok _ _ _ c.step-3.ensures.ok (λ id n. Stands-worth
    (λ input bytes. word_number _ _ _ _
    (width-val c.args.self.now c.args.b0 input ∙ c.requires.b0)
    (width-val c.args.self.now c.args.b1 input ∙ c.requires.b1)
    (width-val c.args.self.now c.args.b2 input ∙ c.requires.b2)
    (width-val c.args.self.now c.args.b3 input ∙ c.requires.b3)) (concat_step high low n))
