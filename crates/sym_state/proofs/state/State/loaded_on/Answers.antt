use Rattle.std.proofs.Common.{◌∙◌, ap, arith, refl, subst, sym}
use Rattle.bv_dag.specs.Graphs.{width_of}
use Rattle.rv_spec.specs.Machine as machine
use Rattle.sym_state.specs.KeptUpdates.{IsUpdate, AreUpdates, KeptUpdates}
use Rattle.sym_state.specs.Loading as loading
use Rattle.sym_state.specs.Placing.{HasBytes}
use Rattle.sym_state.specs.Selecting.{Loads}
use Rattle.sym_state.specs.declared.ways.Stride.{Stride}
use Rattle.sym_state.proofs.Forms.{formed-grown, grows}
use Rattle.sym_state.proofs.Growing.{Continues-trans, IsWide-grown, memory-grown, width-kept}
use Rattle.sym_state.proofs.Noted.{found_is}
use Rattle.sym_state.proofs.Updating.{All-by, IsUpdate-grown}
use Rattle.sym_state.proofs.Taking.{makes_loaded, makes_recalled, place_by, site_by}
use Rattle.sym_state.proofs.state.State.loaded_on.Goals as goal

pub invariant_of-self : goal.invariant_of-self
invariant_of-self c = formed-grown _ c.push_bits.new.terms c.self.invariant c.push_bits.ensures.continues

pub returns-in_err-push_bits-clause-grown : goal.returns-in_err-push_bits-clause-grown
returns-in_err-push_bits-clause-grown c = rw (← c.self.view_is) (grows _ c.push_bits.new.terms c.self.invariant c.push_bits.ensures.continues)

pub load_from-requires-clause-memory : goal.load_from-requires-clause-memory
load_from-requires-clause-memory c = memory-grown c.self.inside.terms c.push_bits.new.terms c.self.inside.memory c.push_bits.ensures.continues c.self.invariant.memory

pub invariant_of-self-in_default : goal.invariant_of-self-in_default
invariant_of-self-in_default c =
    formed-grown _ c.load_from.new.terms c.self.invariant (Continues-trans c.push_bits.ensures.continues c.load_from.ensures.continues)

pub returns-in_default-clause-grown : goal.returns-in_default-clause-grown
returns-in_default-clause-grown c =
    rw (← c.self.view_is) (grows _ c.load_from.new.terms c.self.invariant (Continues-trans c.push_bits.ensures.continues c.load_from.ensures.continues))

pub returns-in_default-clause-ok : goal.returns-in_default-clause-ok
returns-in_default-clause-ok c =
    let is = rw c.terms.ensures at c.way_to-way.ensures in
    let pushed = rw c.new-bits.ensures.items at c.in_ok-push_bits.ensures.ok in
    let loads = rw c.deref-in_default.ensures.value at c.load_from.ensures.ok in
    let none = rw (c.in_default.is, c.deref.ensures.value) at c.updates_at.ensures in
    rw (← c.self.view_is) (makes_loaded _ c.push_bits.new.terms c.args.width c.args.page c.args.term c.way_to-way.result c.push_bits.new.bits.items
    c.self.invariant is pushed c.push_bits.ensures.continues c.stride.result (c.stride.ensures c.self.inside.terms)
    c.load_from.new.terms c.load_from.result (sym none) loads)

pub invariant_of-self-in_err-before : goal.invariant_of-self-in_err-before
invariant_of-self-in_err-before c =
    formed-grown _ c.load_from-2.new.terms c.self.invariant (Continues-trans c.push_bits.ensures.continues c.load_from-2.ensures.continues)

pub returns-in_err-before-clause-grown : goal.returns-in_err-before-clause-grown
returns-in_err-before-clause-grown c =
    rw (← c.self.view_is) (grows _ c.load_from-2.new.terms c.self.invariant (Continues-trans c.push_bits.ensures.continues c.load_from-2.ensures.continues))

pub load_from-requires-2-clause-memory : goal.load_from-requires-2-clause-memory
load_from-requires-2-clause-memory c =
    let g = c.self.inside.terms in
    let t = c.in-Some.list.now in
    let found = found_is (AreUpdates g c.self.inside.memory) (site_by c.args.width c.args.page c.stride.result) t c.self.inside.updates.items
    c.self.invariant.updates (sym (rw (c.in-Some.is, c.deref.ensures.value) at c.updates_at.ensures)) in
    memory-grown g c.push_bits.new.terms c.list.inside.before c.push_bits.ensures.continues
    (subst (HasBytes g) (sym (ap (λ (x : KeptUpdates). x.before) c.list.view_is)) found.1.before)

pub way_bits-requires-clause-within : goal.way_bits-requires-clause-within
way_bits-requires-clause-within c =
    let is = rw c.terms.ensures at c.way_to-way.ensures in
    let some = is.some in
    let within = is.within in
    let both = Continues-trans c.push_bits.ensures.continues c.load_from-2.ensures.continues in
    let same = width-kept c.self.inside.terms c.load_from-2.new.terms c.way_to-way.result.term (width_of c.self.inside.terms c.way_to-way.result.term) both refl
    (omega (arith, some, within)) in
    omega (arith, within, same)

pub invariant_of-self-in_err-bits : goal.invariant_of-self-in_err-bits
invariant_of-self-in_err-bits c =
    formed-grown _ c.way_bits.new.terms c.self.invariant
    (Continues-trans (Continues-trans c.push_bits.ensures.continues c.load_from-2.ensures.continues) c.way_bits.ensures.continues)

pub returns-in_err-bits-clause-grown : goal.returns-in_err-bits-clause-grown
returns-in_err-bits-clause-grown c =
    rw (← c.self.view_is) (grows _ c.way_bits.new.terms c.self.invariant
    (Continues-trans (Continues-trans c.push_bits.ensures.continues c.load_from-2.ensures.continues) c.way_bits.ensures.continues))

pub recalled-requires-clause-some : goal.recalled-requires-clause-some
recalled-requires-clause-some c =
    let g = c.self.inside.terms in
    let t = c.in-Some.list.now in
    let found = found_is (AreUpdates g c.self.inside.memory) (site_by c.args.width c.args.page c.stride.result) t c.self.inside.updates.items
    c.self.invariant.updates (sym (rw (c.in-Some.is, c.deref.ensures.value) at c.updates_at.ensures)) in
    found.1.some

pub recalled-requires-clause-bits : goal.recalled-requires-clause-bits
recalled-requires-clause-bits c =
    let g = c.self.inside.terms in
    let t = c.in-Some.list.now in
    let found = found_is (AreUpdates g c.self.inside.memory) (site_by c.args.width c.args.page c.stride.result) t c.self.inside.updates.items
    c.self.invariant.updates (sym (rw (c.in-Some.is, c.deref.ensures.value) at c.updates_at.ensures)) in
    c.in_ok-bits.ensures.ok.width ∙ sym (found.0.count ∙ ap (λ (x : Stride). x.count) (c.stride.ensures g))

pub recalled-requires-clause-each : goal.recalled-requires-clause-each
recalled-requires-clause-each c =
    let g = c.self.inside.terms in
    let t = c.in-Some.list.now in
    let found = found_is (AreUpdates g c.self.inside.memory) (site_by c.args.width c.args.page c.stride.result) t c.self.inside.updates.items
    c.self.invariant.updates (sym (rw (c.in-Some.is, c.deref.ensures.value) at c.updates_at.ensures)) in
    let all = Continues-trans (Continues-trans c.push_bits.ensures.continues c.load_from-2.ensures.continues) c.way_bits.ensures.continues in
    All-by (IsUpdate g t.site) (IsUpdate c.way_bits.new.terms t.site) t.stored
    (IsUpdate-grown g c.way_bits.new.terms all t.site found.1.some) found.1.each

pub recalled-requires-clause-before : goal.recalled-requires-clause-before
recalled-requires-clause-before c =
    IsWide-grown _ _ c.in_ok-before.before c.way_bits.ensures.continues c.in_ok-before.ensures.ok.wide

pub invariant_of-self-2 : goal.invariant_of-self-2
invariant_of-self-2 c =
    formed-grown _ c.recalled.new.terms c.self.invariant
    (Continues-trans (Continues-trans (Continues-trans c.push_bits.ensures.continues c.load_from-2.ensures.continues) c.way_bits.ensures.continues) c.recalled.ensures.continues)

pub returns-clause-grown : goal.returns-clause-grown
returns-clause-grown c =
    rw (← c.self.view_is) (grows _ c.recalled.new.terms c.self.invariant
    (Continues-trans (Continues-trans (Continues-trans c.push_bits.ensures.continues c.load_from-2.ensures.continues) c.way_bits.ensures.continues) c.recalled.ensures.continues))

pub returns-clause-ok : goal.returns-clause-ok
returns-clause-ok c =
    let is = rw c.terms.ensures at c.way_to-way.ensures in
    let pushed = rw c.new-bits.ensures.items at c.in_ok-push_bits.ensures.ok in
    let found = rw (c.in-Some.is, c.deref.ensures.value) at c.updates_at.ensures in
    let loads = subst (λ m. Loads c.push_bits.new.terms c.load_from-2.new.terms m (place_by c.args.width c.args.page c.way_to-way.result) c.push_bits.new.bits.items
    (machine.loaded c.args.width) (loading.loaded c.args.width) c.in_ok-before.before)
    (ap (λ (x : KeptUpdates). x.before) c.list.view_is) (rw c.deref-2.ensures.value at c.in_ok-before.ensures.ok) in
    rw (← c.self.view_is) (makes_recalled _ c.push_bits.new.terms c.args.width c.args.page c.args.term c.way_to-way.result c.push_bits.new.bits.items
    c.self.invariant is pushed c.push_bits.ensures.continues c.stride.result (c.stride.ensures c.self.inside.terms)
    c.in-Some.list.now (sym found) c.load_from-2.new.terms c.in_ok-before.before loads
    c.way_bits.new.terms c.way_bits.ensures.continues c.in_ok-bits.bits c.in_ok-bits.ensures.ok c.recalled.new.terms c.recalled.result c.recalled.ensures.ok)
