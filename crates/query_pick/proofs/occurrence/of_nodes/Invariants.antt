use Rattle.std.proofs.Common.{take}
use Rattle.bv_dag.specs.Inputs.{inputs_of}
use Rattle.query_pick.specs.Occurring.{AreOccurrences}
use Rattle.query_pick.proofs.occurrence.of_nodes.Given as goal

abbrev pub invariant-loop-node : goal.invariant-loop-node
invariant-loop-node l = AreOccurrences (inputs_of (take l.node-index l.nodes)) l.found.items
