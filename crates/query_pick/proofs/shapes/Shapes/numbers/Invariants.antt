use Rattle.query_pick.proofs.Shaping.{SoFar}
use Rattle.query_pick.proofs.shapes.Shapes.numbers.Given as goal

abbrev pub invariant-loop-node : goal.invariant-loop-node
invariant-loop-node l = SoFar l.fn.self l.self l.dag l.numbers.items l.node-index
