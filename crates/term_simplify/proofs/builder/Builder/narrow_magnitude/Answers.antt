use Rattle.std.proofs.Common.{◌≡◌, ◌<◌, ◌∙◌, ap, arith, length, refl, subst, sym}
use Rattle.bv_dag.specs.Graphs.{Graph, width_of}
use Rattle.bv_dag.proofs.TermLaws.{there}
use Rattle.term_simplify.proofs.Magnitudes.{widened_to_32}
use Rattle.term_simplify.proofs.Stepping.{Stands-itself, Stands-grown, if_ok, neg_step, ite_step}
use Rattle.term_simplify.proofs.builder.Builder.narrow_magnitude.Goals as goal

pub width_of-by-requires : goal.width_of-by-requires
width_of-by-requires c =
    subst (λ (g : Graph). c.args.a < length g.nodes) (sym c.known.ensures) (there c.args.self.now c.args.a _ refl c.requires.not_empty)

pub step-requires-2 : goal.step-requires-2
step-requires-2 c =
    let g = c.args.self.now in
    let bit = Stands-grown c.args.negative 1 c.step.ensures.continues c.requires.bit (omega arith) in
    let whole = Stands-grown c.args.a (width_of g c.args.a) c.step.ensures.continues refl c.requires.not_empty in
    let opposite = neg_step (Stands-itself g c.args.a (width_of g c.args.a) refl c.requires.not_empty) c.in_ok-opposite.ensures.ok in
    (bit.width, omega (arith, opposite.width, c.requires.not_empty), opposite.width ∙ sym whole.width)

pub returns-clause-ok : goal.returns-clause-ok
returns-clause-ok c =
    let g = c.args.self.now in
    let wide : c.width_of-by.result ≡ width_of g c.args.a = c.width_of-by.ensures.value ∙ ap (λ (h : Graph). width_of h c.args.a) c.known.ensures in
    let bit = Stands-grown c.args.negative 1 c.step.ensures.continues c.requires.bit (omega arith) in
    let whole = Stands-grown c.args.a (width_of g c.args.a) c.step.ensures.continues refl c.requires.not_empty in
    let opposite = neg_step (Stands-itself g c.args.a (width_of g c.args.a) refl c.requires.not_empty) c.in_ok-opposite.ensures.ok in
    let magnitude = ite_step bit opposite whole c.in_ok-magnitude.ensures.ok in
    if_ok _ _ _ c.step-3.ensures.ok (λ id n. widened_to_32 g c.args.a c.width_of-by.result wide c.requires.below_32 magnitude n)
