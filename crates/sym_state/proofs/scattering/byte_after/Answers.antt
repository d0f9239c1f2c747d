use Rattle.sym_state.proofs.Growing.{IsByte-grown}
use Rattle.sym_state.proofs.Scattered.{expressed_there, gives_there, place_small}
use Rattle.sym_state.proofs.scattering.byte_after.Goals as goal

pub byte_where-requires-clause-stored : goal.byte_where-requires-clause-stored
byte_where-requires-clause-stored c =
    rw c.bytes_of-many.ensures.value
    (IsByte-grown _ _ _ c.comes_to.ensures.continues (c.requires.stored.are_bytes _ (place_small c.args.along.width c.args.address)))

pub byte_where-requires-clause-kept : goal.byte_where-requires-clause-kept
byte_where-requires-clause-kept c = rw c.byte_in.ensures (IsByte-grown _ _ _ c.comes_to.ensures.continues c.requires.kept)

pub returns-clause-ok : goal.returns-clause-ok
returns-clause-ok c =
    gives_there c.args.terms.now c.comes_to.new.terms c.byte_where.new.terms c.byte_where.result c.args.memory.now c.args.along.width c.args.along.way
    c.args.bytes.now c.args.address c.in_ok-bit.bit c.requires.kept c.requires.stored (rw c.bytes_of-many.ensures.value at c.in_ok-bit.ensures.ok)
    (rw (c.bytes_of-many.ensures.value, c.byte_in.ensures) at c.byte_where.ensures.ok)

pub returns-clause-expression : goal.returns-clause-expression
returns-clause-expression c =
    expressed_there c.args.terms.now c.comes_to.new.terms c.byte_where.new.terms c.byte_where.result c.args.memory.now c.args.along.width c.args.along.way
    c.args.bytes.now c.args.address c.in_ok-bit.bit c.comes_to.ensures.continues c.requires.kept c.requires.stored
    (rw c.bytes_of-many.ensures.value at c.in_ok-bit.ensures.expression)
    (rw (c.bytes_of-many.ensures.value, c.byte_in.ensures) at c.byte_where.ensures.expression)
