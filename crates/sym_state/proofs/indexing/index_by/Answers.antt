use Rattle.std.proofs.Common.{◌∙◌, ap, sym}
use Rattle.term_trees.specs.Trees.{Constant, Widened, tree_of}
use Rattle.sym_state.specs.Indexing.{base_of, index_at, index_by}
use Rattle.sym_state.proofs.IndexNodes.{first_other, no_wide, number_range, second_other, sum_is, widened_there}
use Rattle.sym_state.proofs.indexing.index_by.Goals as goal

pub returns-in_default : goal.returns-in_default
returns-in_default c = record {
  is = first_other c.args.terms.now c.node.ensures.fit c.args.scale c.args.op c.args.a c.args.b c.node.result c.node.ensures.is c.in_default.not-Extend;
  index = tt;
}

pub returns-in_default-node : goal.returns-in_default-node
returns-in_default-node c = record {
  is = second_other c.args.terms.now c.node-2.ensures.fit c.args.scale c.args.op c.args.a c.args.b c.in-Extend.by c.in-Extend.signed c.in-Extend.operand
      c.node-2.result c.in-Extend.ensures.is c.node-2.ensures.is c.in_default-node.not-Num;
  index = tt;
}

pub base_of-requires-clause-number : goal.base_of-requires-clause-number
base_of-requires-clause-number c = number_range c.args.terms.now c.in-Num.ensures.fit c.args.b c.in-Num.width c.in-Num.value c.in-Num.ensures.is

pub index_at-requires-clause-there : goal.index_at-requires-clause-there
index_at-requires-clause-there c =
    widened_there c.args.terms.now c.in-Num.ensures.fit c.args.a c.in-Extend.by c.in-Extend.signed c.in-Extend.operand c.in-Extend.ensures.is

pub returns-then-signed-clause-is : goal.returns-then-signed-clause-is
returns-then-signed-clause-is c =
    let g = c.args.terms.now in
    ap (λ s. index_by c.args.scale c.args.op (Widened c.in-Extend.by s (tree_of g c.in-Extend.operand)) (Constant c.in-Num.width c.in-Num.value)) (sym c.if-signed.true)
    ∙ sum_is g c.in-Num.ensures.fit c.args.scale c.args.op c.args.a c.args.b c.in-Extend.by c.in-Extend.signed c.in-Extend.operand c.in-Num.width c.in-Num.value
    c.in-Extend.ensures.is c.in-Num.ensures.is

pub returns-then-width-gt32-clause-is : goal.returns-then-width-gt32-clause-is
returns-then-width-gt32-clause-is c =
    let g = c.args.terms.now in
    no_wide c.args.scale c.in-Num.width (tree_of g c.in-Extend.operand) (base_of c.args.op c.in-Num.width c.in-Num.value) c.if-width-gt32.true
    ∙ ap (λ s. index_by c.args.scale c.args.op (Widened c.in-Extend.by s (tree_of g c.in-Extend.operand)) (Constant c.in-Num.width c.in-Num.value)) (sym c.if-signed.false)
    ∙ sum_is g c.in-Num.ensures.fit c.args.scale c.args.op c.args.a c.args.b c.in-Extend.by c.in-Extend.signed c.in-Extend.operand c.in-Num.width c.in-Num.value
    c.in-Extend.ensures.is c.in-Num.ensures.is

pub returns-clause-is : goal.returns-clause-is
returns-clause-is c =
    let g = c.args.terms.now in
    c.index_at.ensures.is
    ∙ ap (index_at c.args.scale c.in-Num.width (tree_of g c.in-Extend.operand)) c.base_of.ensures.is
    ∙ ap (λ s. index_by c.args.scale c.args.op (Widened c.in-Extend.by s (tree_of g c.in-Extend.operand)) (Constant c.in-Num.width c.in-Num.value)) (sym c.if-signed.false)
    ∙ sum_is g c.in-Num.ensures.fit c.args.scale c.args.op c.args.a c.args.b c.in-Extend.by c.in-Extend.signed c.in-Extend.operand c.in-Num.width c.in-Num.value
    c.in-Extend.ensures.is c.in-Num.ensures.is
