use Rattle.std.proofs.Common.{◌≡◌, ◌++◌, map, take}
use Rattle.std.specs.List.{enumerate_from}
use Rattle.cert_query.specs.QuestionLines.{node_line}
use Rattle.cert_query.proofs.giving.push_nodes.Given as goal

abbrev pub invariant-loop-id : goal.invariant-loop-id
invariant-loop-id l = l.lines.items ≡ l.fn.lines.items ++ map (node_line l.dag) (enumerate_from 0 (take l.id l.nodes))
