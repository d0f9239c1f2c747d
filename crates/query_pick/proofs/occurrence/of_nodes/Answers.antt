use Rattle.std.proofs.Common.{take}
use Rattle.bv_dag.specs.Nodes.{map_in_turn}
use Rattle.bv_dag.specs.declared.nodes.Node.TheVariants.{Num}
use Rattle.bv_dag.specs.Inputs.{inputs_of}
use Rattle.query_pick.proofs.Joining.{one_more, one_node_more}
use Rattle.query_pick.proofs.occurrence.of_nodes.Goals as goal

pub loop-node-init : goal.loop-node-init
unfolding inputs_of map_in_turn
loop-node-init c = rw c.in_ok-found.ensures.items tt

pub loop-node-preserved : goal.loop-node-preserved
loop-node-preserved c =
    rw (c.in_ok-push.ensures.items, one_node_more c.args.nodes.now c.loop-node.node-index (Num 0 0) c.loop-node-test.true)
    (one_more (inputs_of (take c.loop-node.node-index c.args.nodes.now)) c.loop-node.found.items _ c.of_node.result c.loop-node.invariant (c.of_node.ensures (inputs_of (take c.loop-node.node-index c.args.nodes.now)) (rw c.deref.ensures.value c.loop-node.invariant)))
