use Rattle.std.proofs.Common.{◌≡◌, ℕ, ◌+◌, ◌*◌, ◌/◌, arith, subst, sym}
use Rattle.std.specs.Prelude.{IsSome, Option}
use Rattle.cow_pages.specs.SymbolicMemory.{memory_flags}
use Rattle.sym_state.specs.Placing.{HasBytes}
use Rattle.sym_state.proofs.Growing.{memory-grown}
use Rattle.sym_state.proofs.Scattered.{AreBytesFor-grown, AreWayBits-grown, scatters_more}
use Rattle.sym_state.proofs.scattering.scatter.Goals as goal

pub byte_after-requires-clause-bits : goal.byte_after-requires-clause-bits
byte_after-requires-clause-bits c = AreWayBits-grown _ _ c.args.along.way c.args.along.bits c.loop-offset.invariant.continues c.requires.bits

pub byte_after-requires-clause-stored : goal.byte_after-requires-clause-stored
byte_after-requires-clause-stored c = AreBytesFor-grown _ _ c.args.along.width c.args.bytes.now c.loop-offset.invariant.continues c.requires.stored

pub loop-offset-preserved : goal.loop-offset-preserved
loop-offset-preserved c =
    scatters_more c.args.terms.now c.loop-offset.terms c.byte_after.new.terms c.args.memory.now c.loop-offset.memory c.write.new.self
    c.args.along.width c.args.along.page c.args.along.way c.args.along.bits c.args.bytes.now c.loop-offset.offset c.in_ok-byte.byte
    c.loop-offset.invariant c.requires.bits c.requires.stored c.in_ok-byte.ensures.ok c.in_ok-byte.ensures.expression
    c.in_ok-write.ensures.bytes c.in_ok-write.ensures.flags

pub returns-in_err-byte-clause-memory : goal.returns-in_err-byte-clause-memory
returns-in_err-byte-clause-memory c = memory-grown _ _ c.loop-offset.memory c.byte_after.ensures.continues c.loop-offset.invariant.has_bytes

pub write-requires : goal.write-requires
write-requires c =
    let within = c.loop-offset-test.true in
    let here : c.args.along.page ≡ (256 * c.args.along.page + c.loop-offset.offset) / 256 = omega (arith, within) in
    subst (λ p. IsSome (memory_flags c.loop-offset.memory p)) here
    (subst (λ (f : ℕ → Option ℕ). IsSome (f c.args.along.page)) (sym c.loop-offset.invariant.flags) c.requires.mapped)

pub returns-in_err-write-clause-memory : goal.returns-in_err-write-clause-memory
returns-in_err-write-clause-memory c =
    subst (HasBytes c.byte_after.new.terms) (sym c.in_err-write.ensures.err)
    (memory-grown _ _ c.loop-offset.memory c.byte_after.ensures.continues c.loop-offset.invariant.has_bytes)
