use Rattle.sym_state.proofs.Forms.{formed_term, makes_term}
use Rattle.sym_state.proofs.state.State.tested.Goals as goal

pub invariant_of-self : goal.invariant_of-self
invariant_of-self c = formed_term _ c.tested.new.terms c.tested.result 1 _ c.self.invariant c.tested.ensures.ok c.tested.ensures.err

pub returns-clause-ok : goal.returns-clause-ok
returns-clause-ok c = rw (← c.self.view_is) (makes_term _ c.tested.new.terms c.tested.result 1 _ c.self.invariant c.tested.ensures.ok)
