use Rattle.std.proofs.Common.{◌≡◌, map, take}
use Rattle.bv_dag.specs.Nodes.{vector_at}
use Rattle.report_text.proofs.sample_test.bytes_at.Given as goal

abbrev pub invariant-loop-id : goal.invariant-loop-id
invariant-loop-id l =
    l.bytes.items ≡ map (λ id. (vector_at l.words id).number) (take l.id-index l.ids)
