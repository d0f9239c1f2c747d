use Rattle.sym_state.proofs.Forms.{formed_value, makes_value}
use Rattle.sym_state.proofs.state.State.from_byte.Goals as goal

pub invariant_of-self : goal.invariant_of-self
invariant_of-self c = formed_value _ c.from_byte.new.terms c.from_byte.result _ c.self.invariant c.from_byte.ensures.ok c.from_byte.ensures.err

pub returns-clause-ok : goal.returns-clause-ok
returns-clause-ok c = rw (← c.self.view_is) (makes_value _ c.from_byte.new.terms c.from_byte.result _ c.self.invariant c.from_byte.ensures.ok)
