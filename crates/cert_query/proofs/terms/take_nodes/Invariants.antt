use Rattle.std.proofs.Common.{◌≡◌, ◌≤◌, ◌++◌, length}
use Rattle.bv_dag.specs.Graphs.{IsDag}
use Rattle.cert_query.specs.QuestionLines.{node_lines}
use Rattle.cert_query.proofs.terms.take_nodes.Given as goal

abbrev pub invariant-loop : goal.invariant-loop
invariant-loop l = record {
  inputs : l.dag.inputs ≡ l.initial.dag.inputs;
  dag : IsDag l.dag;
  count : length l.dag.nodes ≡ l.counter;
  passed : l.fn.lines ≡ node_lines l.dag ++ l.rest;
  fewer : length l.rest ≤ length l.fn.lines;
}
