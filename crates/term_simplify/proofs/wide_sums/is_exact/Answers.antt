use Rattle.std.proofs.Common.{refl}
use Rattle.term_trees.proofs.TreeLaws.{width-tree_of}
use Rattle.term_simplify.proofs.wide_sums.is_exact.Goals as goal

pub returns-in-Add : goal.returns-in-Add
returns-in-Add c =
    rw (
      c.unsigned_result.ensures,
      c.width_of-width.ensures.value,
      c.reach_of-left.ensures.is,
      c.reach_of-right.ensures.is,
      c.in-Add.is,
      width-tree_of c.args.terms.now c.args.a,
    ) refl
