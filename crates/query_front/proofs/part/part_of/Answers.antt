use Rattle.std.proofs.Common.{ℕ, List, subst, ◌∙◌}
use Rattle.std.proofs.lemmas.Result.{IfOk-weaker}
use Rattle.query_slice.specs.Slices.{IsCut}
use Rattle.query_front.proofs.Parts.{part_is}
use Rattle.query_front.proofs.part.part_of.Goals as goal

pub returns : goal.returns
returns g c =
    let graph = g.T.Table.graph c.args.terms.now in
    IfOk-weaker c.slice.result _ _
    (λ part cut.
    part_is (record { graph = graph; asserted = c.args.condition.items }) c.args.new part
    (subst (λ (ids : List ℕ). IsCut (record { graph = graph; asserted = ids }) c.args.new part) (c.deref.ensures.value ∙ c.in_ok-push.ensures.items) cut).slice)
    c.slice.ensures
