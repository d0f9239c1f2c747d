use Rattle.std.proofs.Common.{◌≡◌, ◌∙◌, ◌<◌, ap, arith, length, refl, subst, sym}
use Rattle.bv_dag.specs.BitVectors.{ite}
use Rattle.bv_dag.specs.Graphs.{Graph, width_of}
use Rattle.bv_dag.proofs.TermLaws.{there}
use Rattle.term_simplify.specs.Plain.{plain_choice}
use Rattle.term_simplify.proofs.NarrowSteps.{low_step, second_fewer, second_grown, widened_step}
use Rattle.term_simplify.proofs.Stepping.{Stands-grown, Stands-kept, at_width, if_ok, three_step}
use Rattle.term_simplify.proofs.builder.Builder.narrow_choice.Goals as goal

pub width_of-width-requires : goal.width_of-width-requires
width_of-width-requires c =
    subst (λ (g : Graph). c.args.a < length g.nodes) (sym c.known.ensures) (there c.args.self.now c.args.a _ refl (omega (arith, c.requires.first.fewer)))

pub low-requires-2 : goal.low-requires-2
low-requires-2 c = second_fewer c.args.a c.args.b c.args.n c.low.ensures.continues c.requires.first c.requires.second

pub plain_step-requires : goal.plain_step-requires
plain_step-requires c =
    let condition = Stands-kept c.low-2.ensures.continues (Stands-grown c.args.condition 1 c.low.ensures.continues c.requires.condition (omega arith)) in
    let yes = Stands-kept c.low-2.ensures.continues c.in_ok-yes.ensures.ok in
    (condition.width, omega (arith, yes.width, c.requires.first.some), yes.width ∙ sym c.in_ok-no.ensures.ok.width)

pub widened_to-requires-clause-low : goal.widened_to-requires-clause-low
widened_to-requires-clause-low c = c.in_ok-chosen.ensures.ok.width ∙ (Stands-kept c.low-2.ensures.continues c.in_ok-yes.ensures.ok).width

pub returns-clause-ok : goal.returns-clause-ok
returns-clause-ok c =
    let wide : c.width_of-width.result ≡ width_of c.args.self.now c.args.a = c.width_of-width.ensures.value ∙ ap (λ (g : Graph). width_of g c.args.a) c.known.ensures in
    let condition = Stands-kept c.low-2.ensures.continues (Stands-grown c.args.condition 1 c.low.ensures.continues c.requires.condition (omega arith)) in
    let yes = Stands-kept c.low-2.ensures.continues c.in_ok-yes.ensures.ok in
    let no = low_step c.args.n (second_grown c.args.a c.args.b c.args.n c.low.ensures.continues c.requires.first c.requires.second) c.in_ok-no.ensures.ok in
    let chosen = at_width yes.width (three_step plain_choice ite condition yes no c.in_ok-chosen.ensures.ok) in
    if_ok _ _ _ c.widened_to.ensures.ok (λ id last. widened_step c.args.self.now c.args.a c.width_of-width.result c.args.n wide chosen last)
