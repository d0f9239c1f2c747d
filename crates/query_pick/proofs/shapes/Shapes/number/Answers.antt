use Rattle.std.proofs.Common.{◌<◌, length, sym, subst}
use Rattle.bv_dag.specs.Graphs.{Graph}
use Rattle.query_pick.proofs.Shaping.{shapes_put}
use Rattle.query_pick.proofs.shapes.Shapes.number.Goals as goal

pub invariant_of-self-2 : goal.invariant_of-self-2
invariant_of-self-2 c =
    let old : Graph = record { inputs = 0; nodes = c.self.inside.nodes.keys } in
    shapes_put old (record { inputs = 0; nodes = c.insert_full.new.self.keys }) c.args.shape c.in_ok-number.ensures.keys c.self.invariant
    (λ a h. subst (λ (g : Graph). a < length g.nodes) (sym c.self.view_is) (c.requires a h))
    c.in_ok-number.ensures.unique

pub returns-clause-shapes : goal.returns-clause-shapes
returns-clause-shapes c = invariant_of-self-2 c
