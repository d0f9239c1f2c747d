use Rattle.std.proofs.lemmas.Option.{slice_get-get_or}
use Rattle.bv_dag.specs.declared.nodes.Node.TheVariants.{Num}
use Rattle.query_pick.proofs.Shaping.{one_more, operands_numbered, shape_behind}
use Rattle.query_pick.proofs.shapes.Shapes.numbers.Goals as goal

pub shape_of-shape-requires-in-loop-node : goal.shape_of-shape-requires-in-loop-node
shape_of-shape-requires-in-loop-node c =
    let is = slice_get-get_or c.nodes-nodes.result.now c.loop-node.node-index (Num 0 0) c.loop-node-test.true in
    rw (c.deref.ensures.value, c.nodes-nodes.ensures.value)
    (operands_numbered c.args.self.now c.loop-node.self c.args.dag.now c.nodes-nodes.ensures.fit c.loop-node.node-index _
    (rw c.nodes-nodes.ensures.value at is) c.loop-node.numbers.items c.loop-node.invariant)

pub number-requires : goal.number-requires
number-requires c =
    let is = slice_get-get_or c.nodes-nodes.result.now c.loop-node.node-index (Num 0 0) c.loop-node-test.true in
    rw (c.shape_of-shape.ensures, c.deref.ensures.value, c.nodes-nodes.ensures.value)
    (shape_behind c.args.self.now c.loop-node.self c.args.dag.now c.nodes-nodes.ensures.fit c.loop-node.node-index _
    (rw c.nodes-nodes.ensures.value at is) c.loop-node.numbers.items c.loop-node.invariant)

pub loop-node-preserved : goal.loop-node-preserved
loop-node-preserved c =
    let is = slice_get-get_or c.nodes-nodes.result.now c.loop-node.node-index (Num 0 0) c.loop-node-test.true in
    let put = rw (c.shape_of-shape.ensures, c.deref.ensures.value, c.nodes-nodes.ensures.value) at c.in_ok-number.ensures.number in
    rw c.in_ok-push.ensures.items
    (one_more c.args.self.now c.loop-node.self c.args.dag.now c.nodes-nodes.ensures.fit c.loop-node.node-index _
    (rw c.nodes-nodes.ensures.value at is) c.loop-node.numbers.items c.loop-node.invariant
    c.number.new.self c.in_ok-number.field-0 put c.in_ok-number.ensures.shapes)
