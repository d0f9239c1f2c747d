use Rattle.std.proofs.Common.{◌∙◌, ap, arith, sym}
use Rattle.term_trees.specs.Trees.{tree_of}
use Rattle.term_simplify.specs.Narrowing.{is_zero}
use Rattle.term_simplify.proofs.JointReading.{has_room, not_joined, not_zeros, stands_above, too_wide}
use Rattle.term_simplify.proofs.Reading.{operand}
use Rattle.term_simplify.proofs.joints.joint_by.Goals as goal

pub returns-in_default-node : goal.returns-in_default-node
returns-in_default-node c = record {
  some = tt;
  tree = tt;
  none = λ none otherwise. not_joined c.args.terms.now c.args.a c.node.result (tree_of c.args.terms.now c.args.b) otherwise
      c.node.ensures.fit c.node.ensures.is c.in_default-node.not-Concat;
  fit = c.node.ensures.fit;
}

pub number_at-requires : goal.number_at-requires
number_at-requires c =
    (operand c.args.terms.now c.args.a c.in-Concat.low _ c.in-Concat.ensures.fit c.in-Concat.ensures.is
    (c.in-Concat.ensures.fit.all_fit c.args.a _ c.in-Concat.ensures.is).1).there

pub width_of-zeros-requires : goal.width_of-zeros-requires
width_of-zeros-requires c =
    (operand c.args.terms.now c.args.a c.in-Concat.low _ c.in-Concat.ensures.fit c.in-Concat.ensures.is
    (c.in-Concat.ensures.fit.all_fit c.args.a _ c.in-Concat.ensures.is).1).there

pub returns-then-not-is_zero-clause-none : goal.returns-then-not-is_zero-clause-none
returns-then-not-is_zero-clause-none c = λ none otherwise.
    not_zeros c.args.terms.now c.in-Concat.ensures.fit c.args.a c.args.b c.in-Concat.high c.in-Concat.low c.in-Some.lower
    c.in-Concat.ensures.is c.in-Some.ensures.tree otherwise (ap is_zero (sym c.number_at.ensures.number) ∙ sym c.is_zero.ensures ∙ c.if-not-is_zero.true)

pub returns-then-zeros-bits-clause-none : goal.returns-then-zeros-bits-clause-none
returns-then-zeros-bits-clause-none c = λ none otherwise.
    too_wide c.args.terms.now c.in-Concat.ensures.fit c.args.a c.args.b c.in-Concat.high c.in-Concat.low c.in-Some.lower
    c.in-Concat.ensures.is c.in-Some.ensures.tree otherwise (ap is_zero (sym c.number_at.ensures.number) ∙ sym c.is_zero.ensures ∙ c.if-not-is_zero.false)
    (omega (arith, c.if-zeros-bits.true, c.width_of-zeros.ensures.value, c.width_of-bits.ensures.value))

pub returns-clause-some : goal.returns-clause-some
returns-clause-some c =
    rw (c.width_of-zeros.ensures.value, c.width_of-bits.ensures.value)
    (has_room c.args.terms.now c.in-Concat.ensures.fit c.args.a c.args.b c.in-Concat.high c.in-Concat.low c.in-Some.lower
    c.in-Concat.ensures.is c.in-Some.ensures.tree c.in-Some.ensures.there
    (omega (arith, c.if-zeros-bits.false, c.width_of-zeros.ensures.value, c.width_of-bits.ensures.value)))

pub returns-clause-tree : goal.returns-clause-tree
returns-clause-tree c = λ otherwise.
    rw (c.width_of-zeros.ensures.value, c.width_of-bits.ensures.value)
    (stands_above c.args.terms.now c.in-Concat.ensures.fit c.args.a c.args.b c.in-Concat.high c.in-Concat.low c.in-Some.lower
    c.in-Concat.ensures.is c.in-Some.ensures.tree otherwise (ap is_zero (sym c.number_at.ensures.number) ∙ sym c.is_zero.ensures ∙ c.if-not-is_zero.false)
    (omega (arith, c.if-zeros-bits.false, c.width_of-zeros.ensures.value, c.width_of-bits.ensures.value)))
