use Rattle.std.proofs.Common.{◌∙◌, arith, refl, sym}
use Rattle.bv_dag.specs.BitVectors.{bvult}
use Rattle.bv_dag.specs.Graphs.{width_of}
use Rattle.bv_dag.specs.declared.nodes.Comparison.TheVariants.{Ult}
use Rattle.term_simplify.specs.Simplified.{compared}
use Rattle.term_simplify.proofs.Stepping.{Stands-grown, if_ok, two_step}
use Rattle.term_simplify.proofs.builder.Builder.below.Goals as goal

pub untold_step-requires : goal.untold_step-requires
untold_step-requires c =
    let g = c.args.self.now in
    let term = Stands-grown c.args.term (width_of g c.args.term) c.plain_step.ensures.continues refl c.requires.not_empty in
    (omega (arith, term.width, c.requires.not_empty), term.width ∙ sym c.requires.width ∙ sym c.width.ensures.value ∙ sym c.in_ok-number.ensures.ok.width)

pub returns-clause-ok : goal.returns-clause-ok
returns-clause-ok c =
    let g = c.args.self.now in
    let term = Stands-grown c.args.term (width_of g c.args.term) c.plain_step.ensures.continues refl c.requires.not_empty in
    let number = rw (c.width.ensures.value, c.number.ensures.value) at c.in_ok-number.ensures.ok in
    if_ok _ _ _ c.untold_step.ensures.ok (λ id n. two_step (compared Ult) bvult term number n)
