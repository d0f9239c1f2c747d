use Rattle.bv_dag.proofs.Evaluating.{none_first}
use Rattle.bv_dag.proofs.query.Query.holds.Goals as goal

pub are_met-requires-clause-first : goal.are_met-requires-clause-first
are_met-requires-clause-first c = none_first c.self.inside.dag c.args.input.now c.in_ok-words.words.items c.in_ok-words.ensures.items
