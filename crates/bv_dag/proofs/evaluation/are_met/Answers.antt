use Rattle.std.proofs.Common.{arith, get_or}
use Rattle.bv_dag.proofs.TermLaws.{there}
use Rattle.bv_dag.proofs.evaluation.are_met.Goals as goal

pub number_on-requires-clause-there : goal.number_on-requires-clause-there
number_on-requires-clause-there c =
    there c.args.terms.now (get_or c.args.condition.now c.loop-id.id-index 0) 1 (c.requires.bits c.loop-id.id-index 0 c.loop-id-test.true) (omega arith)
