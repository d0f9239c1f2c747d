use Rattle.std.proofs.Common.{take, get_or}
use Rattle.std.specs.List.{flat_map}
use Rattle.bv_dag.specs.Inputs.{inputs_at, inputs_of}
use Rattle.query_pick.proofs.Joining.{one_asserted_more}
use Rattle.query_pick.proofs.occurrence.occurring.Goals as goal

pub loop-id-preserved : goal.loop-id-preserved
loop-id-preserved c =
    rw (one_asserted_more (inputs_of c.args.nodes.now) c.args.asserted.now c.loop-id.id-index c.loop-id-test.true)
    (c.joined-all.ensures (flat_map (inputs_at (inputs_of c.args.nodes.now)) (take c.loop-id.id-index c.args.asserted.now)) (inputs_at (inputs_of c.args.nodes.now) (get_or c.args.asserted.now c.loop-id.id-index 0))
    c.loop-id.invariant (c.at.ensures (inputs_of c.args.nodes.now) (rw c.deref.ensures.value c.in_ok-found.ensures)))
