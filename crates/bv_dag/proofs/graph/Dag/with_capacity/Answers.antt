use Rattle.bv_dag.proofs.Fitting.{IsDag-none, widths_of-none}
use Rattle.std.proofs.Common.{sym}
use Rattle.bv_dag.proofs.graph.Dag.with_capacity.Goals as goal

pub invariant_of-result : goal.invariant_of-result
invariant_of-result c = rw (c.in_ok-with_capacity.ensures.items, c.in_ok-with_capacity-2.ensures.items) (IsDag-none c.args.inputs, sym widths_of-none)
