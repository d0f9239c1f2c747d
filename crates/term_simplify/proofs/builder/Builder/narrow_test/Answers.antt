use Rattle.std.proofs.Common.{◌∙◌, arith, sym}
use Rattle.bv_dag.specs.Nodes.{compare}
use Rattle.term_simplify.specs.Zeros.{comparison_over_zeros}
use Rattle.term_simplify.proofs.NarrowSteps.{low_step, second_fewer, second_grown}
use Rattle.term_simplify.proofs.Stepping.{Stands-kept, if_ok, two_step}
use Rattle.term_simplify.proofs.builder.Builder.narrow_test.Goals as goal

pub low-requires-2 : goal.low-requires-2
low-requires-2 c = second_fewer c.args.a c.args.b c.args.n c.low.ensures.continues c.requires.first c.requires.second

pub own_step-requires : goal.own_step-requires
own_step-requires c =
    let left = Stands-kept c.low-2.ensures.continues c.in_ok-left.ensures.ok in
    (omega (arith, left.width, c.requires.first.some), left.width ∙ sym c.in_ok-right.ensures.ok.width)

pub returns-clause-ok : goal.returns-clause-ok
returns-clause-ok c =
    let left = Stands-kept c.low-2.ensures.continues c.in_ok-left.ensures.ok in
    let right = low_step c.args.n (second_grown c.args.a c.args.b c.args.n c.low.ensures.continues c.requires.first c.requires.second) c.in_ok-right.ensures.ok in
    rw (← c.comparison_by_low.ensures) (if_ok _ _ _ c.own_step.ensures.ok
    (λ id test. two_step (comparison_over_zeros c.comparison_by_low.result) (compare c.comparison_by_low.result) left right test))
