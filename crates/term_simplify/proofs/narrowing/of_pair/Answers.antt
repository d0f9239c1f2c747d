use Rattle.std.proofs.Common.{◌≡◌, false, ap, sym, ◌∙◌}
use Rattle.std.specs.Prelude.{is_some}
use Rattle.term_trees.specs.Trees.{tree_of}
use Rattle.term_simplify.specs.Narrowing.{are_numbers}
use Rattle.term_simplify.proofs.NarrowReading.{pair_read, first_no_number, second_no_number}
use Rattle.term_simplify.proofs.narrowing.of_pair.Goals.{else-is_some-via-then-is_some+else-is_some-2, else-is_some-via-else-is_some}
use Rattle.term_simplify.proofs.narrowing.of_pair.Goals as goal

pub returns-clause-is : goal.returns-clause-is
returns-clause-is c =
    let g = c.args.terms.now in
    let other : are_numbers (tree_of g c.args.a) (tree_of g c.args.b) ≡ false =
    elim c.else-is_some.branch [
      | else-is_some-via-then-is_some+else-is_some-2 w ↦ second_no_number _ _
          (sym (w.is_some-then-is_some.ensures ∙ ap is_some w.number_at-then-is_some.ensures.number)
          ∙ w.if-is_some-2.false)
      | else-is_some-via-else-is_some w ↦ first_no_number _ _
          (sym (c.is_some.ensures ∙ ap is_some c.number_at.ensures.number) ∙ w.if-is_some.false)
    ] in
    pair_read g c.args.a c.reach_of-left.result c.width_of.result c.narrowest.result
    c.reach_of-left.ensures.is c.width_of.ensures.value c.args.b c.reach_of-right.result
    c.reach_of-right.ensures.is c.max.result c.max-2.result other c.max.ensures c.max-2.ensures
    c.narrowest.ensures
