use Rattle.bv_dag.specs.Inputs.{inputs_at}
use Rattle.query_pick.proofs.occurrence.of_node.Goals as goal

pub returns-in-Binary : goal.returns-in-Binary
returns-in-Binary c = λ under all. rw c.in-Binary.is (c.joined.ensures (inputs_at under c.in-Binary.a) (inputs_at under c.in-Binary.b) (c.at.ensures under all) (c.at-in-Binary.ensures under all))

pub returns-in-Compare : goal.returns-in-Compare
returns-in-Compare c =
    λ under all.
    rw c.in-Compare.is
    (c.joined-in-Compare.ensures (inputs_at under c.in-Compare.a) (inputs_at under c.in-Compare.b) (c.at-in-Compare.ensures under all) (c.at-in-Compare-2.ensures under all))

pub returns-in-Concat : goal.returns-in-Concat
returns-in-Concat c =
    λ under all.
    rw c.in-Concat.is
    (c.joined-in-Concat.ensures (inputs_at under c.in-Concat.high) (inputs_at under c.in-Concat.low) (c.at-in-Concat.ensures under all) (c.at-in-Concat-2.ensures under all))

pub returns-in-Ite : goal.returns-in-Ite
returns-in-Ite c =
    λ under all.
    rw c.in-Ite.is
    (c.joined-in-Ite.ensures _ (inputs_at under c.in-Ite.no)
    (c.joined-sides.ensures (inputs_at under c.in-Ite.condition) (inputs_at under c.in-Ite.yes) (c.at-in-Ite.ensures under all) (c.at-in-Ite-2.ensures under all)) (c.at-in-Ite-3.ensures under all))
