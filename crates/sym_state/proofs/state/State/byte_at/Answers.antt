use Rattle.sym_state.proofs.Forms.{formed_byte, makes_byte}
use Rattle.sym_state.proofs.state.State.byte_at.Goals as goal

pub invariant_of-self : goal.invariant_of-self
invariant_of-self c = formed_byte _ c.byte_at.new.terms c.byte_at.result _ c.self.invariant c.byte_at.ensures.ok c.byte_at.ensures.err

pub returns-clause-ok : goal.returns-clause-ok
returns-clause-ok c = rw (← c.self.view_is) (makes_byte _ c.byte_at.new.terms c.byte_at.result _ c.self.invariant c.byte_at.ensures.ok)
