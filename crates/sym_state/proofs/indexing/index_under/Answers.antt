use Rattle.std.proofs.Common.{◌∙◌}
use Rattle.sym_state.proofs.IndexNodes.{high_there, joined, low_there, not_joined}
use Rattle.sym_state.proofs.indexing.index_under.Goals as goal

pub index_over-requires-clause-high : goal.index_over-requires-clause-high
index_over-requires-clause-high c = high_there c.args.terms.now c.in-Concat.ensures.fit c.args.id c.in-Concat.high c.in-Concat.low c.in-Concat.ensures.is

pub index_over-requires-clause-low : goal.index_over-requires-clause-low
index_over-requires-clause-low c = low_there c.args.terms.now c.in-Concat.ensures.fit c.args.id c.in-Concat.high c.in-Concat.low c.in-Concat.ensures.is

pub returns-in-Concat-clause-is : goal.returns-in-Concat-clause-is
returns-in-Concat-clause-is c =
    c.index_over.ensures.is
    ∙ joined c.args.terms.now c.in-Concat.ensures.fit c.args.id c.in-Concat.high c.in-Concat.low c.in-Concat.ensures.is

pub returns-in_default : goal.returns-in_default
returns-in_default c = record {
  is = c.index_in.ensures.is ∙ not_joined c.args.terms.now c.node.ensures.fit c.args.id c.node.result c.node.ensures.is c.in_default.not-Concat;
  index = c.index_in.ensures.index;
}
