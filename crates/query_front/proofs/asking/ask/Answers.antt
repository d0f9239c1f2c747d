use Rattle.std.proofs.Common.{sym, ◌∙◌}
use Rattle.bv_dag.specs.Queries.{Condition}
use Rattle.query_slice.proofs.Kept.{long_where_holds}
use Rattle.query_front.proofs.asking.ask.Goals as goal

pub ask_part-requires : goal.ask_part-requires
ask_part-requires g c =
    let q : Condition = record { graph = g.T.Table.graph c.args.terms.now; asserted = c.args.condition.items } in
    long_where_holds q c.args.sample.now c.requires.sampled ∙ sym c.in_ok-part.ensures.cut.inputs
