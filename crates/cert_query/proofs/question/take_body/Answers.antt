use Rattle.std.proofs.Common.{◌≡◌, ◌++◌, length}
use Rattle.bv_dag.specs.Graphs.{IsDag}
use Rattle.cert_query.specs.QuestionLines.{node_lines}
use Rattle.cert_query.proofs.Faulted.{fault_in_asserted}
use Rattle.cert_query.proofs.Taken.{of_fault}
use Rattle.cert_query.proofs.question.take_body.Goals as goal

pub returns-in-Ok-clause-cause : goal.returns-in-Ok-clause-cause
returns-in-Ok-clause-cause c =
    let over : c.in-Ok.dag.inputs ≡ c.args.inputs = rw c.in-Ok.is at c.in_ok-dag.ensures.inputs in
    let count : length c.in-Ok.dag.nodes ≡ c.args.nodes = rw c.in-Ok.is at c.in_ok-dag.ensures.count in
    let dag : IsDag c.in-Ok.dag = rw c.in-Ok.is at c.in_ok-dag.ensures.dag in
    let passed : c.args.lines.now ≡ node_lines c.in-Ok.dag ++ c.in-Ok.rest.now = rw c.in-Ok.is at c.in_ok-dag.ensures.taken in
    of_fault _ _ c.ask.result
    (λ fault refused. fault_in_asserted c.args.inputs c.args.nodes c.in-Ok.dag c.args.lines.now c.in-Ok.rest.now fault over count dag passed refused)
    c.ask.ensures.cause
