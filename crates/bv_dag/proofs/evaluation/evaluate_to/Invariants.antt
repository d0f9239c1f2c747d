use Rattle.std.proofs.Common.{◌+◌, ◌-◌, length}
use Rattle.bv_dag.specs.Evaluations.{AreFirstWords}
use Rattle.bv_dag.proofs.evaluation.evaluate_to.Given as goal

abbrev pub invariant-loop-nodes : goal.invariant-loop-nodes
invariant-loop-nodes l = AreFirstWords l.fn.terms l.fn.input l.words.items

abbrev pub decreases-loop-nodes : goal.decreases-loop-nodes
decreases-loop-nodes l = l.fn.id + 1 - length l.words.items
