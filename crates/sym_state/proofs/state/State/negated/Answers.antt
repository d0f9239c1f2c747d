use Rattle.sym_state.proofs.Forms.{formed_term, makes_term}
use Rattle.sym_state.proofs.state.State.negated.Goals as goal

pub invariant_of-self : goal.invariant_of-self
invariant_of-self c = formed_term _ c.negated.new.terms c.negated.result 1 _ c.self.invariant c.negated.ensures.ok c.negated.ensures.err

pub returns-clause-ok : goal.returns-clause-ok
returns-clause-ok c = rw (← c.self.view_is) (makes_term _ c.negated.new.terms c.negated.result 1 _ c.self.invariant c.negated.ensures.ok)
