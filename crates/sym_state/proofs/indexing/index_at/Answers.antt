use Rattle.std.proofs.Common.{◌≡◌, ◌∙◌, ◌*◌, ◌%◌, ◌^◌, arith, sym}
use Rattle.std.proofs.Math.Nat.{mod-eq_of_lt}
use Rattle.term_trees.specs.Trees.{tree_of}
use Rattle.term_trees.proofs.TreeLaws.{width-tree_of}
use Rattle.sym_state.proofs.IndexNodes.{few, not_few, start_small}
use Rattle.sym_state.proofs.indexing.index_at.Goals as goal

pub returns-then-not-is_index-clause-is : goal.returns-then-not-is_index-clause-is
returns-then-not-is_index-clause-is c =
    not_few c.args.scale c.args.bits c.width_of-width.result c.in_ok-base.base (tree_of c.args.terms.now c.args.term) c.args.base c.in_ok-base.was
    (c.width_of-width.ensures.value ∙ sym (width-tree_of c.args.terms.now c.args.term)) (sym c.is_index.ensures ∙ c.if-not-is_index.true)

pub overflow_cast-result-2 : goal.overflow_cast-result-2
overflow_cast-result-2 c =
    let small = start_small c.args.scale c.args.bits c.width_of-width.result c.in_ok-base.base (sym c.if-not-is_index.ensures) in
    let same : c.in_ok-base.base * 2 ^ c.args.scale % 2 ^ 64 ≡ c.in_ok-base.base * 2 ^ c.args.scale = mod-eq_of_lt (omega (arith, small)) in
    omega (arith, small, same)

pub returns-clause-is : goal.returns-clause-is
returns-clause-is c =
    few c.args.scale c.args.bits c.width_of-width.result c.in_ok-base.base (tree_of c.args.terms.now c.args.term) c.args.base c.in_ok-base.was
    (c.width_of-width.ensures.value ∙ sym (width-tree_of c.args.terms.now c.args.term)) (sym c.if-not-is_index.ensures)
