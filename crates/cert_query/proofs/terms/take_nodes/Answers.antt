use Rattle.std.proofs.Common.{◌≡◌, ◌∙◌, ◌+◌, ◌++◌, ap, arith}
use Rattle.cert_query.specs.QuestionLines.{node_lines}
use Rattle.cert_query.specs.Terms.{IsTakenNode}
use Rattle.cert_query.specs.QuestionFaults.{IsNodeFault}
use Rattle.cert_query.proofs.Faulted.{one_more_is_dag}
use Rattle.cert_query.proofs.Lines.{inputs_kept, node_more, one_node_more}
use Rattle.cert_query.proofs.Passing.{no_longer}
use Rattle.cert_query.proofs.terms.take_nodes.Goals as goal

pub loop-preserved : goal.loop-preserved
loop-preserved c =
    let old = c.loop.dag in
    let new = c.take_node.new.dag in
    let rest = c.loop.rest.now in
    let more = c.in-Ok.more.now in
    let taken : IsTakenNode c.loop.dag c.take_node.new.dag c.loop.rest.now c.in-Ok.more.now = rw c.in-Ok.is at c.in_ok-more.ensures.taken in
    let passed : c.args.lines.now ≡ node_lines c.take_node.new.dag ++ c.in-Ok.more.now = node_more old new c.args.lines.now rest more c.loop.invariant.passed taken in
    record {
      inputs = inputs_kept old new rest more taken ∙ c.loop.invariant.inputs;
      dag = one_more_is_dag old new rest more c.loop.invariant.dag taken;
      count = one_node_more old new rest more taken ∙ ap (λ k. k + 1) c.loop.invariant.count;
      passed = passed;
      fewer = no_longer c.args.lines.now (node_lines new) more passed;
    }

pub returns-in-Err-clause-cause : goal.returns-in-Err-clause-cause
returns-in-Err-clause-cause c =
    let here : IsNodeFault c.loop.dag c.loop.rest.now c.in-Err.fault = rw c.in-Err.is at c.in_ok-more.ensures.cause in
    record {
      graph = c.loop.dag;
      over = c.loop.invariant.inputs;
      dag = c.loop.invariant.dag;
      few = omega (arith, c.loop.invariant.count, c.loop-test.true);
      refused = record { rest = c.loop.rest.now; split = c.loop.invariant.passed; here = here };
    }
