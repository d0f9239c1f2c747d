use Rattle.sym_state.proofs.Naming.{not_gives}
use Rattle.sym_state.proofs.operations.negated.Goals as goal

pub returns-clause-ok : goal.returns-clause-ok
returns-clause-ok c = not_gives c.args.terms.now c.build.new.self c.args.id c.build.result c.build.ensures.term c.requires.bit c.build.ensures.ok
