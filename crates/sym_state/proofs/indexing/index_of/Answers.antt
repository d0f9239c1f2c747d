use Rattle.std.proofs.Common.{◌∙◌}
use Rattle.sym_state.proofs.IndexNodes.{not_widened, widened_by_sign, widened_by_zeros, widened_there}
use Rattle.sym_state.proofs.indexing.index_of.Goals as goal

pub returns-in_default : goal.returns-in_default
returns-in_default c = record {
  is = c.index_under.ensures.is ∙ not_widened c.args.terms.now c.node.ensures.fit c.args.id c.node.result c.node.ensures.is c.in_default.not-Extend;
  index = c.index_under.ensures.index;
  fit = c.node.ensures.fit;
}

pub returns-then-signed-clause-is : goal.returns-then-signed-clause-is
returns-then-signed-clause-is c =
    c.index_under-then-signed.ensures.is
    ∙ widened_by_sign c.args.terms.now c.in-Extend.ensures.fit c.args.id c.in-Extend.by c.in-Extend.signed c.in-Extend.operand c.in-Extend.ensures.is c.if-signed.true

pub index_under-requires-2 : goal.index_under-requires-2
index_under-requires-2 c = record {
  there = widened_there c.args.terms.now c.in-Extend.ensures.fit c.args.id c.in-Extend.by c.in-Extend.signed c.in-Extend.operand c.in-Extend.ensures.is;
}

pub returns-clause-is : goal.returns-clause-is
returns-clause-is c =
    c.index_under-2.ensures.is
    ∙ widened_by_zeros c.args.terms.now c.in-Extend.ensures.fit c.args.id c.in-Extend.by c.in-Extend.signed c.in-Extend.operand c.in-Extend.ensures.is c.if-signed.false
