use Rattle.sym_state.proofs.Leading.{bits-grown}
use Rattle.sym_state.proofs.Growing.{memory-grown, IsByte-grown}
use Rattle.sym_state.proofs.Taking.{loads_half, takes-before, takes-kept}
use Rattle.sym_state.proofs.loading.load_half.Goals as goal

pub byte_by-requires-2-clause-bits : goal.byte_by-requires-2-clause-bits
byte_by-requires-2-clause-bits c = bits-grown _ _ c.args.bits.now c.in_ok-low.ensures.ok.continues c.requires.bits

pub byte_by-requires-2-clause-memory : goal.byte_by-requires-2-clause-memory
byte_by-requires-2-clause-memory c = memory-grown _ _ c.args.memory.now c.in_ok-low.ensures.ok.continues c.requires.memory

pub from_half-requires-clause-low : goal.from_half-requires-clause-low
from_half-requires-clause-low c = IsByte-grown _ _ c.in_ok-low.low c.in_ok-high.ensures.ok.continues c.in_ok-low.ensures.ok.is_byte

pub returns-clause-ok : goal.returns-clause-ok
returns-clause-ok c =
    let memory = c.args.memory.now in
    let bits = c.args.bits.now in
    loads_half c.args.terms.now c.byte_by-2.new.terms memory c.args.place bits c.from_half.new.terms c.from_half.result c.args.signed c.in_ok-low.low c.in_ok-high.high
    (takes-kept _ _ _ memory c.args.place 0 bits c.in_ok-low.low c.in_ok-high.ensures.ok.continues c.in_ok-low.ensures.ok)
    (takes-before _ _ _ memory c.args.place 1 bits c.in_ok-high.high c.in_ok-low.ensures.ok.continues c.requires.bits c.requires.memory c.in_ok-high.ensures.ok)
    c.from_half.ensures.ok c.from_half.ensures.expression
