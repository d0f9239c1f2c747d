use Rattle.std.proofs.Common.{◌∙◌}
use Rattle.term_trees.specs.Trees.{tree_of}
use Rattle.sym_state.proofs.IndexNodes.{no_zeros, number_width, other_number, zeros_below}
use Rattle.sym_state.proofs.indexing.index_over.Goals as goal

pub returns-in_default : goal.returns-in_default
returns-in_default c = record {
  is = no_zeros c.args.terms.now c.node.ensures.fit (tree_of c.args.terms.now c.args.high) c.args.low c.node.result c.node.ensures.is c.in_default.not-Num;
  index = tt;
}

pub returns-then-value-ne0-clause-is : goal.returns-then-value-ne0-clause-is
returns-then-value-ne0-clause-is c =
    other_number c.args.terms.now c.in-Num.ensures.fit (tree_of c.args.terms.now c.args.high) c.args.low c.in-Num.width c.in-Num.value c.in-Num.ensures.is
    c.if-value-ne0.true

pub index_in-requires-clause-scale : goal.index_in-requires-clause-scale
index_in-requires-clause-scale c = number_width c.args.terms.now c.in-Num.ensures.fit c.args.low c.in-Num.width c.in-Num.value c.in-Num.ensures.is

pub returns-clause-is : goal.returns-clause-is
returns-clause-is c =
    c.index_in.ensures.is
    ∙ zeros_below c.args.terms.now c.in-Num.ensures.fit (tree_of c.args.terms.now c.args.high) c.args.low c.in-Num.width c.in-Num.value c.in-Num.ensures.is
    c.if-value-ne0.false
