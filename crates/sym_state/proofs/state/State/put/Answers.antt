use Rattle.sym_state.proofs.Forms.{formed-put}
use Rattle.sym_state.proofs.Grown.{Continues-refl}
use Rattle.sym_state.proofs.Updating.{bytes-beside, updates-beside}
use Rattle.sym_state.proofs.state.State.put.Goals as goal

pub invariant_of-self-2 : goal.invariant_of-self-2
invariant_of-self-2 c =
    let g = c.self.inside.terms in
    let is_byte = rw (← c.self.view_is) at c.requires.is_byte in
    let bytes = c.in_ok-write.ensures.bytes in
    rw c.give_up.ensures (formed-put _ g c.write.new.self _ c.self.invariant (Continues-refl g)
    (bytes-beside g c.self.inside.memory c.write.new.self c.args.address c.args.byte bytes c.self.invariant.memory is_byte)
    (updates-beside g c.self.inside.memory c.write.new.self c.args.address c.args.byte bytes c.self.inside.updates.items c.self.invariant.updates))

pub returns-clause-formed : goal.returns-clause-formed
returns-clause-formed c =
    let g = c.self.inside.terms in
    let is_byte = rw (← c.self.view_is) at c.requires.is_byte in
    let bytes = c.in_ok-write.ensures.bytes in
    rw c.give_up.ensures (formed-put _ g c.write.new.self _ c.self.invariant (Continues-refl g)
    (bytes-beside g c.self.inside.memory c.write.new.self c.args.address c.args.byte bytes c.self.invariant.memory is_byte)
    (updates-beside g c.self.inside.memory c.write.new.self c.args.address c.args.byte bytes c.self.inside.updates.items c.self.invariant.updates))
