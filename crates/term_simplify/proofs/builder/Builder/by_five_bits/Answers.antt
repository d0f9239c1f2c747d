use Rattle.std.proofs.Common.{arith, sym, ◌∙◌}
use Rattle.bv_dag.specs.declared.nodes.BinaryOp.TheVariants.{And}
use Rattle.term_simplify.proofs.Stepping.{Stands-kept, Stands-grown, if_ok, binary_step}
use Rattle.term_simplify.proofs.builder.Builder.by_five_bits.Goals as goal

pub step-requires-2 : goal.step-requires-2
step-requires-2 c =
    let second = Stands-grown c.args.b 32 c.step.ensures.continues c.requires.second (omega arith) in
    (omega (arith, second.width), second.width ∙ sym c.in_ok-mask.ensures.ok.width)

pub step-requires-3 : goal.step-requires-3
step-requires-3 c =
    let second = Stands-grown c.args.b 32 c.step.ensures.continues c.requires.second (omega arith) in
    let amount = binary_step And second c.in_ok-mask.ensures.ok c.in_ok-amount.ensures.ok in
    let first = Stands-kept c.step-2.ensures.continues
    (Stands-grown c.args.a 32 c.step.ensures.continues c.requires.first (omega arith)) in
    (omega (arith, first.width), first.width ∙ sym amount.width)

pub returns-clause-ok : goal.returns-clause-ok
returns-clause-ok c =
    let second = Stands-grown c.args.b 32 c.step.ensures.continues c.requires.second (omega arith) in
    let amount = binary_step And second c.in_ok-mask.ensures.ok c.in_ok-amount.ensures.ok in
    let first = Stands-kept c.step-2.ensures.continues
    (Stands-grown c.args.a 32 c.step.ensures.continues c.requires.first (omega arith)) in
    if_ok _ _ _ c.step-3.ensures.ok (λ id n. binary_step c.args.op first amount n)
