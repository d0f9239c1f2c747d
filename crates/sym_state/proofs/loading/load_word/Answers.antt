use Rattle.sym_state.proofs.Leading.{bits-grown}
use Rattle.sym_state.proofs.Growing.{memory-grown, Continues-trans, IsByte-grown}
use Rattle.sym_state.proofs.Taking.{loads_word, takes-before, takes-kept}
use Rattle.sym_state.proofs.loading.load_word.Goals as goal

pub byte_by-requires-2-clause-bits : goal.byte_by-requires-2-clause-bits
byte_by-requires-2-clause-bits c = bits-grown _ _ c.args.bits.now c.in_ok-b0.ensures.ok.continues c.requires.bits

pub byte_by-requires-2-clause-memory : goal.byte_by-requires-2-clause-memory
byte_by-requires-2-clause-memory c = memory-grown _ _ c.args.memory.now c.in_ok-b0.ensures.ok.continues c.requires.memory

pub byte_by-requires-3-clause-bits : goal.byte_by-requires-3-clause-bits
byte_by-requires-3-clause-bits c =
    bits-grown _ _ c.args.bits.now (Continues-trans c.in_ok-b0.ensures.ok.continues c.in_ok-b1.ensures.ok.continues) c.requires.bits

pub byte_by-requires-3-clause-memory : goal.byte_by-requires-3-clause-memory
byte_by-requires-3-clause-memory c =
    memory-grown _ _ c.args.memory.now (Continues-trans c.in_ok-b0.ensures.ok.continues c.in_ok-b1.ensures.ok.continues) c.requires.memory

pub byte_by-requires-4-clause-bits : goal.byte_by-requires-4-clause-bits
byte_by-requires-4-clause-bits c =
    let two = Continues-trans c.in_ok-b0.ensures.ok.continues c.in_ok-b1.ensures.ok.continues in
    bits-grown _ _ c.args.bits.now (Continues-trans two c.in_ok-b2.ensures.ok.continues) c.requires.bits

pub byte_by-requires-4-clause-memory : goal.byte_by-requires-4-clause-memory
byte_by-requires-4-clause-memory c =
    let two = Continues-trans c.in_ok-b0.ensures.ok.continues c.in_ok-b1.ensures.ok.continues in
    memory-grown _ _ c.args.memory.now (Continues-trans two c.in_ok-b2.ensures.ok.continues) c.requires.memory

pub from_word-requires-clause-b0 : goal.from_word-requires-clause-b0
from_word-requires-clause-b0 c =
    let two = Continues-trans c.in_ok-b1.ensures.ok.continues c.in_ok-b2.ensures.ok.continues in
    IsByte-grown _ _ c.in_ok-b0.b0 (Continues-trans two c.in_ok-b3.ensures.ok.continues) c.in_ok-b0.ensures.ok.is_byte

pub from_word-requires-clause-b1 : goal.from_word-requires-clause-b1
from_word-requires-clause-b1 c =
    IsByte-grown _ _ c.in_ok-b1.b1 (Continues-trans c.in_ok-b2.ensures.ok.continues c.in_ok-b3.ensures.ok.continues) c.in_ok-b1.ensures.ok.is_byte

pub from_word-requires-clause-b2 : goal.from_word-requires-clause-b2
from_word-requires-clause-b2 c = IsByte-grown _ _ c.in_ok-b2.b2 c.in_ok-b3.ensures.ok.continues c.in_ok-b2.ensures.ok.is_byte

pub returns-clause-ok : goal.returns-clause-ok
returns-clause-ok c =
    let memory = c.args.memory.now in
    let place = c.args.place in
    let bits = c.args.bits.now in
    let one = c.in_ok-b0.ensures.ok.continues in
    let two = Continues-trans one c.in_ok-b1.ensures.ok.continues in
    let three = Continues-trans two c.in_ok-b2.ensures.ok.continues in
    let last = c.in_ok-b3.ensures.ok.continues in
    let after_b1 = Continues-trans c.in_ok-b2.ensures.ok.continues last in
    let after_b0 = Continues-trans c.in_ok-b1.ensures.ok.continues after_b1 in
    loads_word c.args.terms.now c.byte_by-4.new.terms memory place bits c.from_word.new.terms c.from_word.result c.in_ok-b0.b0 c.in_ok-b1.b1 c.in_ok-b2.b2 c.in_ok-b3.b3
    (takes-kept _ _ _ memory place 0 bits c.in_ok-b0.b0 after_b0 c.in_ok-b0.ensures.ok)
    (takes-before _ _ _ memory place 1 bits c.in_ok-b1.b1 one c.requires.bits c.requires.memory
    (takes-kept _ _ _ memory place 1 bits c.in_ok-b1.b1 after_b1 c.in_ok-b1.ensures.ok))
    (takes-before _ _ _ memory place 2 bits c.in_ok-b2.b2 two c.requires.bits c.requires.memory
    (takes-kept _ _ _ memory place 2 bits c.in_ok-b2.b2 last c.in_ok-b2.ensures.ok))
    (takes-before _ _ _ memory place 3 bits c.in_ok-b3.b3 three c.requires.bits c.requires.memory c.in_ok-b3.ensures.ok)
    c.from_word.ensures.ok c.from_word.ensures.expression
