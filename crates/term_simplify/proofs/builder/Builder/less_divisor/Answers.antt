use Rattle.std.proofs.Common.{◌∙◌, ◌+◌, sym, arith}
use Rattle.bv_dag.specs.BitVectors.{bvsub}
use Rattle.bv_dag.specs.declared.nodes.BinaryOp.TheVariants.{Sub}
use Rattle.term_simplify.specs.Plain.{plain_binary}
use Rattle.term_simplify.proofs.Stepping.{Stands-grown, at_width, if_ok, two_step}
use Rattle.term_simplify.proofs.builder.Builder.less_divisor.Goals as goal

pub plain_step-requires-2 : goal.plain_step-requires-2
plain_step-requires-2 c =
    let a = Stands-grown c.args.a (c.args.d.bits + 1) c.plain_step.ensures.continues c.requires.wide (omega arith) in
    (omega (arith, a.width), a.width ∙ sym c.in_ok-divisor.ensures.ok.width)

pub returns-clause-ok : goal.returns-clause-ok
returns-clause-ok c =
    let a = Stands-grown c.args.a (c.args.d.bits + 1) c.plain_step.ensures.continues c.requires.wide (omega arith) in
    if_ok _ _ _ c.plain_step-2.ensures.ok (λ id n. at_width a.width (two_step (plain_binary Sub) bvsub a c.in_ok-divisor.ensures.ok n))
