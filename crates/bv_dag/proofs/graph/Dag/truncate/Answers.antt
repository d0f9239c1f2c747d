use Rattle.bv_dag.proofs.Fitting.{IsDag-take, widths_of-take}
use Rattle.bv_dag.proofs.graph.Dag.truncate.Goals as goal

pub invariant_of-self : goal.invariant_of-self
invariant_of-self c = (
  IsDag-take c.self.inside.inputs c.args.len c.self.inside.nodes.items _ c.self.invariant.0 c.truncate.ensures.items,
  widths_of-take c.args.len c.self.inside.nodes.items _ c.self.inside.widths.items _ c.self.invariant.1 c.truncate.ensures.items c.truncate-2.ensures.items,
)
