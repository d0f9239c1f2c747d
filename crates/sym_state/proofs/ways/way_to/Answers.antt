use Rattle.std.proofs.Common.{arith}
use Rattle.bv_dag.proofs.TermLaws.{there}
use Rattle.sym_state.proofs.Indices.{way_by_index}
use Rattle.sym_state.proofs.ways.way_to.Goals as goal

pub index_of-requires : goal.index_of-requires
index_of-requires c = record { there = there c.args.terms.now c.args.term 32 c.requires.wide (omega arith) }

pub returns-in-Some : goal.returns-in-Some
returns-in-Some c =
    way_by_index c.args.terms.now c.args.width c.args.page c.args.term c.in-Some.index c.in-Some.ensures.fit
    (there c.args.terms.now c.args.term 32 c.requires.wide (omega arith)) c.in-Some.ensures.is c.in-Some.ensures.index
