use Rattle.std.proofs.Common.{◌∙◌, arith, sym}
use Rattle.term_simplify.proofs.PartPlans.{across_halves, all_of_it, cut_sums, in_cut, in_lower, in_none, in_upper, lower_operand, none_widened, some_widened, widened_operand}
use Rattle.term_simplify.proofs.Reading.{has_bits}
use Rattle.term_simplify.proofs.parts.within_operand.Goals as goal

pub overflow_add-high : goal.overflow_add-high
overflow_add-high c =
    let s = cut_sums c.args.terms.now c.args.span.operand c.node-node.ensures.fit c.args.span.high c.args.span.low c.requires (sym c.is_whole.ensures ∙ c.if-is_whole.false)
    _ _ _ c.in-Extract.ensures.is in omega (arith, s.0)

pub overflow_add-low : goal.overflow_add-low
overflow_add-low c =
    let s = cut_sums c.args.terms.now c.args.span.operand c.node-node.ensures.fit c.args.span.high c.args.span.low c.requires (sym c.is_whole.ensures ∙ c.if-is_whole.false)
    _ _ _ c.in-Extract.ensures.is in omega (arith, s.1)

pub width_of-requires : goal.width_of-requires
width_of-requires c = (widened_operand c.args.terms.now c.args.span.operand c.node-node.ensures.fit c.args.span.high c.args.span.low c.requires (sym c.is_whole.ensures ∙ c.if-is_whole.false)
    _ _ _ c.in-Extend.ensures.is).there

pub within_widened-requires-clause-at_most_64 : goal.within_widened-requires-clause-at_most_64
within_widened-requires-clause-at_most_64 c =
    omega (arith, c.requires.within, (has_bits c.args.terms.now c.args.span.operand c.node-node.ensures.fit c.requires.there).1)

pub width_of-width-requires : goal.width_of-width-requires
width_of-width-requires c = (lower_operand c.args.terms.now c.args.span.operand c.node-node.ensures.fit c.args.span.high c.args.span.low c.requires (sym c.is_whole.ensures ∙ c.if-is_whole.false)
    _ _ c.in-Concat.ensures.is).there

pub returns-then-is_whole-clause-none : goal.returns-then-is_whole-clause-none
returns-then-is_whole-clause-none c =
    all_of_it c.args.terms.now c.args.span.operand c.args.span.high c.args.span.low c.is_whole.result c.node-node.ensures.fit
    c.requires.there c.is_whole.ensures c.if-is_whole.true

pub returns-in-Extract-clause-some : goal.returns-in-Extract-clause-some
returns-in-Extract-clause-some c =
    rw c.same.ensures (in_cut c.args.terms.now c.args.span.operand c.node-node.ensures.fit c.args.span.high c.args.span.low c.requires (sym c.is_whole.ensures ∙ c.if-is_whole.false)
    _ _ _ c.in-Extract.ensures.is)

pub returns-in-Extend-clause-some : goal.returns-in-Extend-clause-some
returns-in-Extend-clause-some c =
    some_widened c.args.terms.now c.args.span.operand c.node-node.ensures.fit c.args.span.high c.args.span.low c.requires (sym c.is_whole.ensures ∙ c.if-is_whole.false)
    _ _ _ c.in-Extend.ensures.is c.within_widened.result c.width_of.result c.width_of.ensures.value c.within_widened.ensures

pub returns-in-Extend-clause-none : goal.returns-in-Extend-clause-none
returns-in-Extend-clause-none c =
    none_widened c.args.terms.now c.args.span.operand c.node-node.ensures.fit c.args.span.high c.args.span.low c.requires (sym c.is_whole.ensures ∙ c.if-is_whole.false)
    _ _ _ c.in-Extend.ensures.is c.within_widened.result c.width_of.result c.width_of.ensures.value c.within_widened.ensures

pub returns-then-high-width-clause-some : goal.returns-then-high-width-clause-some
returns-then-high-width-clause-some c =
    rw c.same-then-high-width.ensures (in_lower c.args.terms.now c.args.span.operand c.node-node.ensures.fit c.args.span.high c.args.span.low c.requires (sym c.is_whole.ensures ∙ c.if-is_whole.false)
    _ _ c.in-Concat.ensures.is c.width_of-width.result c.width_of-width.ensures.value c.if-high-width.true)

pub returns-then-width-low-clause-some : goal.returns-then-width-low-clause-some
returns-then-width-low-clause-some c =
    rw c.same-then-width-low.ensures (in_upper c.args.terms.now c.args.span.operand c.node-node.ensures.fit c.args.span.high c.args.span.low c.requires (sym c.is_whole.ensures ∙ c.if-is_whole.false)
    _ _ c.in-Concat.ensures.is c.width_of-width.result c.width_of-width.ensures.value c.if-high-width.false c.if-width-low.true)

pub returns-else-width-low-clause-none : goal.returns-else-width-low-clause-none
returns-else-width-low-clause-none c =
    across_halves c.args.terms.now c.args.span.operand c.node-node.ensures.fit c.args.span.high c.args.span.low c.requires (sym c.is_whole.ensures ∙ c.if-is_whole.false)
    _ _ c.in-Concat.ensures.is c.width_of-width.result c.width_of-width.ensures.value c.if-high-width.false c.if-width-low.false

pub returns-in_default-clause-none : goal.returns-in_default-clause-none
returns-in_default-clause-none c =
    in_none c.args.terms.now c.args.span.operand c.node-node.result c.args.span.high c.args.span.low
    c.node-node.ensures.fit c.node-node.ensures.is c.in_default.not-Extract c.in_default.not-Extend
    c.in_default.not-Concat
