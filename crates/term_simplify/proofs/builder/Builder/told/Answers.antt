use Rattle.std.proofs.Common.{◌∙◌, arith, refl, sym}
use Rattle.bv_dag.specs.BitVectors.{equal}
use Rattle.bv_dag.specs.Graphs.{width_of}
use Rattle.bv_dag.specs.declared.nodes.Comparison.TheVariants.{Eq}
use Rattle.term_simplify.specs.Simplified.{compared}
use Rattle.term_simplify.proofs.Stepping.{Stands-grown, if_ok, two_step}
use Rattle.term_simplify.proofs.builder.Builder.told.Goals as goal

pub untold_step-requires : goal.untold_step-requires
untold_step-requires c =
    let g = c.args.self.now in
    let e = c.in-Equal.e in
    let is = rw c.in-Equal.is at c.requires in
    let term = Stands-grown e.term (width_of g e.term) c.plain_step-in-Equal.ensures.continues refl is.number.not_empty in
    (omega (arith, term.width, is.number.not_empty), term.width ∙ sym is.number.width ∙ sym c.width.ensures.value ∙ sym c.in_ok-number-in-Equal.ensures.ok.width)

pub returns-in_ok-number-in-Equal-clause-ok : goal.returns-in_ok-number-in-Equal-clause-ok
returns-in_ok-number-in-Equal-clause-ok c =
    let g = c.args.self.now in
    let e = c.in-Equal.e in
    let is = rw c.in-Equal.is at c.requires in
    let term = Stands-grown e.term (width_of g e.term) c.plain_step-in-Equal.ensures.continues refl is.number.not_empty in
    let number = rw (c.width.ensures.value, c.number.ensures.value) at c.in_ok-number-in-Equal.ensures.ok in
    rw c.in-Equal.is (if_ok _ _ _ c.untold_step.ensures.ok (λ id n. two_step (compared Eq) equal term number n))
