use Rattle.std.proofs.Common.{take}
use Rattle.std.specs.List.{flat_map}
use Rattle.bv_dag.specs.Inputs.{inputs_at, inputs_of}
use Rattle.query_pick.specs.Occurring.{IsOccurrence}
use Rattle.query_pick.proofs.occurrence.occurring.Given as goal

abbrev pub invariant-loop-id : goal.invariant-loop-id
invariant-loop-id l = IsOccurrence (flat_map (inputs_at (inputs_of l.nodes)) (take l.id-index l.asserted)) l.all
