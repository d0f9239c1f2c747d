use Rattle.std.proofs.Common.{◌≡◌, ◌<◌, length, arith}
use Rattle.bv_dag.specs.declared.nodes.Node.TheVariants.{Num}
use Rattle.bv_dag.proofs.Evaluating.{next_first, next_fits}
use Rattle.bv_dag.proofs.evaluation.evaluate_to.Goals as goal

pub value-word-requires : goal.value-word-requires
value-word-requires c =
    let at : c.len-in-loop-nodes.result ≡ length c.loop-nodes.words.items = omega (arith, c.len-in-loop-nodes.ensures) in
    let there : c.len-in-loop-nodes.result < length c.args.terms.now.nodes = omega (arith, c.loop-nodes-test.true, c.len.ensures, c.len-in-loop-nodes.ensures, c.requires.there) in
    rw (c.deref.ensures.value, c.nodes-nodes.ensures.value)
    (next_fits c.args.terms.now c.args.input.now c.loop-nodes.words.items c.len-in-loop-nodes.result (Num 0 0) at there c.nodes-nodes.ensures.fit c.requires.each_input c.loop-nodes.invariant)

pub loop-nodes-preserved : goal.loop-nodes-preserved
loop-nodes-preserved c =
    let at : c.len-in-loop-nodes.result ≡ length c.loop-nodes.words.items = omega (arith, c.len-in-loop-nodes.ensures) in
    let there : c.len-in-loop-nodes.result < length c.args.terms.now.nodes = omega (arith, c.loop-nodes-test.true, c.len.ensures, c.len-in-loop-nodes.ensures, c.requires.there) in
    next_first c.args.terms.now c.args.input.now c.loop-nodes.words.items _ _ c.len-in-loop-nodes.result (Num 0 0) at there c.loop-nodes.invariant
    (rw (c.deref.ensures.value, c.nodes-nodes.ensures.value) at c.value-word.ensures) c.in_ok-push.ensures.items
