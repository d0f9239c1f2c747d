use Rattle.std.proofs.Common.{◌≤◌, arith}
use Rattle.std.proofs.lemmas.Nat.{pow_pos}
use Rattle.bv_dag.specs.Graphs.{width_of}
use Rattle.term_trees.specs.Trees.{tree_of}
use Rattle.term_trees.proofs.TreeLaws.{width-tree_of}
use Rattle.term_simplify.proofs.PartTerms.{narrow}
use Rattle.term_simplify.proofs.Stepping.{Stands-kept, if_ok, concat_step}
use Rattle.term_simplify.proofs.builder.Builder.moved.Goals as goal

pub plain_step-requires-in-Up : goal.plain_step-requires-in-Up
plain_step-requires-in-Up c =
    let g = c.args.self.now in
    let fits : width_of g c.args.m.operand ≤ 64 = omega (arith, narrow g.inputs (tree_of g c.args.m.operand) c.plain_step.ensures.term.0, width-tree_of g c.args.m.operand) in
    record {
      not_empty = c.requires.some;
      at_most_64 = omega (arith, fits, c.requires.wide, c.requires.within);
      in_range = pow_pos c.args.m.by;
    }

pub plain_step-requires-in-Up-2 : goal.plain_step-requires-in-Up-2
plain_step-requires-in-Up-2 c =
    let g = c.args.self.now in
    let m = c.args.m in
    let fits : width_of g m.operand ≤ 64 = omega (arith, narrow g.inputs (tree_of g m.operand) c.plain_step.ensures.term.0, width-tree_of g m.operand) in
    let lower = Stands-kept c.plain_step-in-Up.ensures.continues c.in_ok-lower-in-Up.ensures.ok in
    let zeros = c.in_ok-zeros-in-Up.ensures.ok in
    (omega (arith, lower.width), omega (arith, zeros.width, c.requires.some), omega (arith, lower.width, zeros.width, fits, c.requires.wide, c.requires.within))

pub plain_step-requires-in-Down-2 : goal.plain_step-requires-in-Down-2
plain_step-requires-in-Down-2 c =
    let g = c.args.self.now in
    let m = c.args.m in
    let fits : width_of g m.operand ≤ 64 = omega (arith, narrow g.inputs (tree_of g m.operand) c.plain_step-in-Down.ensures.term.0, width-tree_of g m.operand) in
    let upper = c.in_ok-upper-in-Down.ensures.ok in
    (omega (arith, upper.width), c.requires.some, omega (arith, upper.width, fits, c.requires.wide, c.requires.within))

pub returns-in_ok-zeros-in-Up-clause-tree : goal.returns-in_ok-zeros-in-Up-clause-tree
returns-in_ok-zeros-in-Up-clause-tree c =
    let lower = Stands-kept c.plain_step-in-Up.ensures.continues c.in_ok-lower-in-Up.ensures.ok in
    let zeros = c.in_ok-zeros-in-Up.ensures.ok in
    rw c.in-Up.is (if_ok _ _ _ c.plain_step-in-Up-2.ensures.ok (λ id n. (concat_step lower zeros n).tree))
