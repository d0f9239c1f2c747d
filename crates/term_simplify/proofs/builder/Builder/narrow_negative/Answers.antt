use Rattle.std.proofs.Common.{◌≡◌, ◌∙◌, ◌<◌, ap, arith, length, refl, subst, sym}
use Rattle.bv_dag.specs.BitVectors.{bvneg}
use Rattle.bv_dag.specs.Graphs.{Graph, width_of}
use Rattle.bv_dag.proofs.TermLaws.{there}
use Rattle.term_simplify.specs.Plain.{plain_negative}
use Rattle.term_simplify.proofs.NarrowSteps.{widened_step}
use Rattle.term_simplify.proofs.Stepping.{at_width, if_ok, one_step}
use Rattle.term_simplify.proofs.builder.Builder.narrow_negative.Goals as goal

pub width_of-width-requires : goal.width_of-width-requires
width_of-width-requires c =
    subst (λ (g : Graph). c.args.a < length g.nodes) (sym c.known.ensures) (there c.args.self.now c.args.a _ refl (omega (arith, c.requires.fewer)))

pub returns-clause-ok : goal.returns-clause-ok
returns-clause-ok c =
    let wide : c.width_of-width.result ≡ width_of c.args.self.now c.args.a = c.width_of-width.ensures.value ∙ ap (λ (g : Graph). width_of g c.args.a) c.known.ensures in
    let low = c.in_ok-low.ensures.ok in
    let negative = at_width low.width (one_step plain_negative bvneg low c.in_ok-negative.ensures.ok) in
    if_ok _ _ _ c.widened_to.ensures.ok (λ id last. widened_step c.args.self.now c.args.a c.width_of-width.result c.args.n wide negative last)
