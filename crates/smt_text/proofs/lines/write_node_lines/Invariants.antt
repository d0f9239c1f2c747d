use Rattle.std.proofs.Common.{◌≡◌, ◌++◌, map, string_bytes, take}
use Rattle.std.specs.List.{enumerate_from}
use Rattle.bv_dag.specs.Graphs.{width_of}
use Rattle.smt_text.specs.Lines.{NodeLine, lines_text}
use Rattle.smt_text.proofs.lines.write_node_lines.Given as goal

abbrev pub invariant-loop-id : goal.invariant-loop-id
invariant-loop-id l =
    string_bytes l.text
    ≡ string_bytes l.fn.text ++ lines_text (map (λ (id, node). NodeLine id (width_of l.dag id) node) (enumerate_from 0 (take l.id l.dag.nodes)))
