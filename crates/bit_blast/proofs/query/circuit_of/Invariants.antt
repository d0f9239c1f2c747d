use Rattle.std.proofs.Common.{◌≡◌, take, fold}
use Rattle.circuit_spec.specs.Circuits.{circuit_with, no_terms}
use Rattle.bit_blast.proofs.query.circuit_of.Given as goal

abbrev pub invariant-loop-node : goal.invariant-loop-node
invariant-loop-node l = l.circuit ≡ fold circuit_with (no_terms l.query.graph.inputs) (take l.node-index l.nodes)
