use Rattle.std.proofs.Common.{◌≡◌, take}
use Rattle.query_slice.specs.Merging.{merged, own_inputs}
use Rattle.query_slice.proofs.merging.merged_over.Given as goal

abbrev pub invariant-loop-id : goal.invariant-loop-id
invariant-loop-id l = l.bytes.items ≡ merged (own_inputs l.nodes (take l.id-index l.places)) l.sample l.answer
