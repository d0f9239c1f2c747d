use Rattle.std.proofs.Common.{sym, ◌∙◌}
use Rattle.proof_check.proofs.Keys.{key_of_last, key_of_none}
use Rattle.proof_check.proofs.index.clause_key.Goals as goal

pub returns-in-Some-clause-key : goal.returns-in-Some-clause-key
returns-in-Some-clause-key c = c.literal_key.ensures.key ∙ key_of_last c.args.clause.now c.in-Some.literal.now (sym c.in-Some.ensures.value)

pub returns-in-None-clause-key : goal.returns-in-None-clause-key
returns-in-None-clause-key c = key_of_none c.args.clause.now (sym c.in-None.ensures.value)
