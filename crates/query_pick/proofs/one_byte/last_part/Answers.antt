use Rattle.std.proofs.Common.{◌≡◌, ◌∙◌, ◌-◌, ℕ, true, List, length}
use Rattle.std.proofs.lemmas.Result.{IfOk-weaker}
use Rattle.bv_dag.specs.Queries.{holds}
use Rattle.query_pick.proofs.Fewer.{fewer_hold}
use Rattle.query_pick.proofs.one_byte.last_part.Goals as goal

pub returns : goal.returns
returns c =
    let asserted : List ℕ = c.asserted-asserted.result.now in
    let before = c.saturating_sub-before.result in
    IfOk-weaker c.pick.result _ _
    (λ last same input meets.
    let met : holds (record { graph = c.dag.result.now; asserted = asserted }) input ≡ true = rw (c.dag.ensures, c.asserted-asserted.ensures.value) meets in
    same input ∙ fewer_hold c.dag.result.now asserted before (length asserted - before) input met)
    c.pick.ensures.same_meaning
