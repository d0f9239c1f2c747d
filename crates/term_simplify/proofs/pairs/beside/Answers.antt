use Rattle.std.proofs.Common.{◌∙◌, ap, refl, sym}
use Rattle.bv_dag.specs.BitVectors.{BitVector}
use Rattle.term_trees.specs.Trees.{tree_of}
use Rattle.term_trees.proofs.TreeLaws.{width-tree_of}
use Rattle.term_simplify.proofs.PairReading.{none_beside, shorter_here, some_beside}
use Rattle.term_simplify.proofs.pairs.beside.Goals as goal

pub returns-then-has_number-clause-is : goal.returns-then-has_number-clause-is
returns-then-has_number-clause-is c = rw (← c.has_number.ensures, c.if-has_number.true) refl

pub returns-then-not-is_shorter-clause-is : goal.returns-then-not-is_shorter-clause-is
returns-then-not-is_shorter-clause-is c =
    none_beside (tree_of c.args.terms.now c.args.sum) (tree_of c.args.terms.now c.args.id) (sym c.has_number.ensures ∙ c.if-has_number.false)
    (sym (shorter_here c.args.terms.now c.args.id c.args.sum c.width_of-width.result c.reach_of.result c.reach_of-2.result _ c.reach_of.ensures.is c.reach_of-2.ensures.is
    c.width_of-width.ensures.value c.is_shorter.ensures) ∙ c.if-not-is_shorter.true)

pub returns-clause-is : goal.returns-clause-is
returns-clause-is c =
    some_beside (tree_of c.args.terms.now c.args.sum) (tree_of c.args.terms.now c.args.id) c.zero.result (sym c.has_number.ensures ∙ c.if-has_number.false)
    (sym (shorter_here c.args.terms.now c.args.id c.args.sum c.width_of-width.result c.reach_of.result c.reach_of-2.result _ c.reach_of.ensures.is c.reach_of-2.ensures.is
    c.width_of-width.ensures.value c.is_shorter.ensures) ∙ c.if-not-is_shorter.false)
    (c.zero.ensures ∙ ap {B = BitVector} (λ k. record { width = k; number = 0 }) (c.width_of-width.ensures.value ∙ sym (width-tree_of c.args.terms.now c.args.id)))
