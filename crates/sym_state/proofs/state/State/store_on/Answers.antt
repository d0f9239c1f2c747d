use Rattle.std.proofs.Common.{[]}
use Rattle.std.proofs.lemmas.List.Elements.{All-nil}
use Rattle.sym_state.specs.KeptUpdates.{AreUpdates}
use Rattle.sym_state.proofs.Forms.{formed-grown, formed-put}
use Rattle.sym_state.proofs.Growing.{Continues-trans, IsWide-grown, memory-grown}
use Rattle.sym_state.proofs.Scattered.{AreWayBits-grown}
use Rattle.sym_state.proofs.StoredOn.{stored_made}
use Rattle.sym_state.proofs.state.State.store_on.Goals as goal

pub invariant_of-self : goal.invariant_of-self
invariant_of-self c = formed-grown _ c.way_bits.new.terms c.self.invariant c.way_bits.ensures.continues

pub low_bytes-requires-clause-wide : goal.low_bytes-requires-clause-wide
low_bytes-requires-clause-wide c =
    IsWide-grown c.self.inside.terms c.way_bits.new.terms c.args.value c.way_bits.ensures.continues (rw (← c.self.view_is) at c.requires.wide)

pub invariant_of-self-in_err-bytes : goal.invariant_of-self-in_err-bytes
invariant_of-self-in_err-bytes c =
    formed-grown _ c.low_bytes.new.terms c.self.invariant (Continues-trans c.way_bits.ensures.continues c.low_bytes.ensures.continues)

pub invariant_of-self-in_err-updates : goal.invariant_of-self-in_err-updates
invariant_of-self-in_err-updates c =
    formed-grown _ c.low_bytes.new.terms c.self.invariant (Continues-trans c.way_bits.ensures.continues c.low_bytes.ensures.continues)

pub scatter-requires-clause-bits : goal.scatter-requires-clause-bits
scatter-requires-clause-bits c =
    AreWayBits-grown _ _ c.way_to-way.result c.in_ok-bits.bits c.low_bytes.ensures.continues c.in_ok-bits.ensures.ok

pub scatter-requires-clause-memory : goal.scatter-requires-clause-memory
scatter-requires-clause-memory c =
    memory-grown c.self.inside.terms c.low_bytes.new.terms c.self.inside.memory
    (Continues-trans c.way_bits.ensures.continues c.low_bytes.ensures.continues) c.self.invariant.memory

pub invariant_of-self-in_err-scatter : goal.invariant_of-self-in_err-scatter
invariant_of-self-in_err-scatter c =
    let both = Continues-trans c.way_bits.ensures.continues c.low_bytes.ensures.continues in
    rw c.new.ensures.items (formed-put _ c.scatter.new.terms c.scatter.new.memory [] c.self.invariant (Continues-trans both c.scatter.ensures.continues)
    c.scatter.ensures.memory (All-nil (AreUpdates c.scatter.new.terms c.scatter.new.memory)))

pub invariant_of-self-2 : goal.invariant_of-self-2
invariant_of-self-2 c =
    let is = rw (c.terms.ensures, c.as_load-width.ensures) at c.way_to-way.ensures in
    let made = rw (c.bytes_of.ensures.value, c.as_load-width.ensures) at c.in_ok-bytes.ensures.ok in
    let scatters = rw (c.deref-2.ensures.value, c.as_load-width.ensures) at c.in_ok-scatter.ensures.ok in
    let bits = AreWayBits-grown _ _ c.way_to-way.result c.in_ok-bits.bits c.low_bytes.ensures.continues c.in_ok-bits.ensures.ok in
    let updates = rw (c.deref.ensures.value, c.as_load-width.ensures, c.stride.ensures c.self.inside.terms) at c.in_ok-updates.ensures in
    let stored = stored_made _ c.way_bits.new.terms c.low_bytes.new.terms c.args.width c.args.page c.args.term c.args.value c.way_to-way.result
    c.in_ok-bytes.bytes.items c.self.invariant (rw (← c.self.view_is) at c.requires.wide) is c.way_bits.ensures.continues made c.in_ok-bits.bits bits
    c.scatter.new.terms c.scatter.new.memory c.scatter.ensures.continues c.scatter.ensures.memory scatters in
    rw updates stored.formed

pub returns : goal.returns
returns c =
    let is = rw (c.terms.ensures, c.as_load-width.ensures) at c.way_to-way.ensures in
    let made = rw (c.bytes_of.ensures.value, c.as_load-width.ensures) at c.in_ok-bytes.ensures.ok in
    let scatters = rw (c.deref-2.ensures.value, c.as_load-width.ensures) at c.in_ok-scatter.ensures.ok in
    let bits = AreWayBits-grown _ _ c.way_to-way.result c.in_ok-bits.bits c.low_bytes.ensures.continues c.in_ok-bits.ensures.ok in
    let updates = rw (c.deref.ensures.value, c.as_load-width.ensures, c.stride.ensures c.self.inside.terms) at c.in_ok-updates.ensures in
    let stored = stored_made _ c.way_bits.new.terms c.low_bytes.new.terms c.args.width c.args.page c.args.term c.args.value c.way_to-way.result
    c.in_ok-bytes.bytes.items c.self.invariant (rw (← c.self.view_is) at c.requires.wide) is c.way_bits.ensures.continues made c.in_ok-bits.bits bits
    c.scatter.new.terms c.scatter.new.memory c.scatter.ensures.continues c.scatter.ensures.memory scatters in
    rw updates (rw (← c.self.view_is) stored)
