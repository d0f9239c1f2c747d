use Rattle.std.proofs.Common.{arith}
use Rattle.sym_state.proofs.StoredOn.{way_bits-made}
use Rattle.sym_state.proofs.ways.way_bits.Goals as goal

pub overflow_add-way : goal.overflow_add-way
overflow_add-way c = let few = c.requires.few in omega (arith, few)

pub returns-clause-ok : goal.returns-clause-ok
returns-clause-ok c =
    way_bits-made c.args.terms.now c.build.new.self c.build.result c.args.way c.requires.some c.requires.within c.build.ensures.ok
