use Rattle.sym_state.proofs.Forms.{formed_bit, makes_bit}
use Rattle.sym_state.proofs.state.State.passes.Goals as goal

pub invariant_of-self : goal.invariant_of-self
invariant_of-self c = formed_bit _ c.passes.new.terms c.passes.result _ c.self.invariant c.passes.ensures.ok c.passes.ensures.err

pub returns-clause-ok : goal.returns-clause-ok
returns-clause-ok c = rw (← c.self.view_is) (makes_bit _ c.passes.new.terms c.passes.result _ c.self.invariant c.passes.ensures.ok)
