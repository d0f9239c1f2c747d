use Rattle.std.proofs.Common.{sym, ◌∙◌}
use Rattle.std.proofs.lemmas.Option.{slice_get-get_or}
use Rattle.bv_dag.specs.declared.nodes.Node.TheVariants.{Num}
use Rattle.query_cache.proofs.Prints.{operands_printed, prints_more, prints_of_none}
use Rattle.query_cache.proofs.fingerprints.all_prints.Goals as goal

pub loop-node-init : goal.loop-node-init
loop-node-init c = c.in_ok-prints.ensures.items ∙ sym prints_of_none

pub node_print-requires : goal.node_print-requires
node_print-requires c =
    let nodes = c.nodes-nodes.result.now in
    let is = slice_get-get_or nodes c.loop-node.node-index (Num 0 0) c.loop-node-test.true in
    rw (c.deref.ensures.value, c.nodes-nodes.ensures.value)
    (operands_printed c.args.dag.now c.nodes-nodes.ensures.fit c.loop-node.node-index _
    (rw c.nodes-nodes.ensures.value at is) c.loop-node.prints.items c.loop-node.invariant)

pub loop-node-preserved : goal.loop-node-preserved
loop-node-preserved c =
    let nodes = c.nodes-nodes.result.now in
    let is = slice_get-get_or nodes c.loop-node.node-index (Num 0 0) c.loop-node-test.true in
    rw (c.in_ok-push.ensures.items, c.node_print.ensures, c.deref.ensures.value, c.nodes-nodes.ensures.value)
    (prints_more c.args.dag.now c.nodes-nodes.ensures.fit c.loop-node.node-index _
    (rw c.nodes-nodes.ensures.value at is) c.loop-node.prints.items c.loop-node.invariant)
