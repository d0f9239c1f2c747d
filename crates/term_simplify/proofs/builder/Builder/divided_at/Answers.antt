use Rattle.bv_dag.specs.Graphs.{val}
use Rattle.term_trees.specs.Trees.{tree_of}
use Rattle.term_simplify.proofs.DivisionSteps.{by_udiv, by_urem, the_other}
use Rattle.term_simplify.proofs.Stepping.{if_ok}
use Rattle.term_simplify.proofs.builder.Builder.divided_at.Goals as goal

pub returns-in-Udiv-clause-ok : goal.returns-in-Udiv-clause-ok
returns-in-Udiv-clause-ok c =
    let g = c.args.self.now in
    let d = c.args.d in
    if_ok _ _ _ c.quotient_by.ensures.ok (λ id n.
    by_udiv c.args.op d.width d.bits d.divisor (tree_of g d.operand) (λ input. val g d.operand input) c.in-Udiv.is n)

pub returns-in_default : goal.returns-in_default
returns-in_default c =
    let g = c.args.self.now in
    let d = c.args.d in
    let made = c.remainder_by.ensures in
    record {
      continues = made.continues;
      ok = if_ok _ _ _ made.ok (λ id n.
          by_urem c.args.op d.width d.bits d.divisor (tree_of g d.operand) (λ input. val g d.operand input)
          (the_other c.args.op c.requires.division c.in_default.not-Udiv) n);
    }
