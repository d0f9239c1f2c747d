use Rattle.sym_state.proofs.Forms.{formed_term, makes_term}
use Rattle.sym_state.proofs.state.State.byte_term.Goals as goal

pub invariant_of-self : goal.invariant_of-self
invariant_of-self c = formed_term _ c.byte_term.new.terms c.byte_term.result 8 _ c.self.invariant c.byte_term.ensures.ok c.byte_term.ensures.err

pub returns-clause-ok : goal.returns-clause-ok
returns-clause-ok c = rw (← c.self.view_is) (makes_term _ c.byte_term.new.terms c.byte_term.result 8 _ c.self.invariant c.byte_term.ensures.ok)
