use Rattle.std.proofs.Common.{◌∙◌}
use Rattle.sym_state.proofs.IndexNodes.{a_sum, first_there, no_sum, second_there}
use Rattle.sym_state.proofs.indexing.index_in.Goals as goal

pub index_by-requires-clause-first : goal.index_by-requires-clause-first
index_by-requires-clause-first c = first_there c.args.terms.now c.in-Binary.ensures.fit c.args.id c.in-Binary.op c.in-Binary.a c.in-Binary.b c.in-Binary.ensures.is

pub index_by-requires-clause-second : goal.index_by-requires-clause-second
index_by-requires-clause-second c = second_there c.args.terms.now c.in-Binary.ensures.fit c.args.id c.in-Binary.op c.in-Binary.a c.in-Binary.b c.in-Binary.ensures.is

pub returns-in-Binary-clause-is : goal.returns-in-Binary-clause-is
returns-in-Binary-clause-is c =
    c.index_by.ensures.is
    ∙ a_sum c.args.terms.now c.in-Binary.ensures.fit c.args.scale c.args.id c.in-Binary.op c.in-Binary.a c.in-Binary.b c.in-Binary.ensures.is

pub returns-in_default : goal.returns-in_default
returns-in_default c = record {
  is = no_sum c.args.terms.now c.node.ensures.fit c.args.scale c.args.id c.node.result c.node.ensures.is c.in_default.not-Binary;
  index = tt;
}
