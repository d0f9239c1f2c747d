use Rattle.std.proofs.Common.{◌∙◌, sym}
use Rattle.term_simplify.proofs.Lifts.{first_there, in_choice, in_complement, lifts_choice, lifts_complement, lifts_no_choice, lifts_none, second_there}
use Rattle.term_simplify.proofs.lifting.lifting_at.Goals as goal

pub has_number-requires-clause-first : goal.has_number-requires-clause-first
has_number-requires-clause-first c =
    first_there c.args.terms.now c.args.span.high c.args.span.low c.args.span.operand c.node.ensures.fit c.requires _ _ _ c.in-Ite.ensures.is

pub has_number-requires-clause-second : goal.has_number-requires-clause-second
has_number-requires-clause-second c =
    second_there c.args.terms.now c.args.span.high c.args.span.low c.args.span.operand c.node.ensures.fit c.requires _ _ _ c.in-Ite.ensures.is

pub returns-in-Not-clause-some : goal.returns-in-Not-clause-some
returns-in-Not-clause-some c =
    in_complement c.args.terms.now c.args.span.high c.args.span.low c.args.span.operand c.node.ensures.fit c.requires _ c.in-Not.ensures.is

pub returns-in-Not-clause-is : goal.returns-in-Not-clause-is
returns-in-Not-clause-is c =
    lifts_complement c.args.terms.now c.args.span.high c.args.span.low c.args.span.operand c.node.ensures.fit c.requires _ c.in-Not.ensures.is

pub returns-then-has_number-clause-some : goal.returns-then-has_number-clause-some
returns-then-has_number-clause-some c =
    in_choice c.args.terms.now c.args.span.high c.args.span.low c.args.span.operand c.node.ensures.fit c.requires _ _ _ c.in-Ite.ensures.is

pub returns-then-has_number-clause-is : goal.returns-then-has_number-clause-is
returns-then-has_number-clause-is c = λ levels.
    lifts_choice c.args.terms.now c.args.span.high c.args.span.low c.args.span.operand c.node.ensures.fit c.requires _ _ _ c.in-Ite.ensures.is levels
    (sym c.has_number.ensures ∙ c.if-has_number.true)

pub returns-else-has_number-clause-none : goal.returns-else-has_number-clause-none
returns-else-has_number-clause-none c = λ levels.
    lifts_no_choice c.args.terms.now c.args.span.high c.args.span.low c.args.span.operand c.node.ensures.fit c.requires _ _ _ c.in-Ite.ensures.is levels
    (sym c.has_number.ensures ∙ c.if-has_number.false)

pub returns-in_default-clause-none : goal.returns-in_default-clause-none
returns-in_default-clause-none c =
    lifts_none c.args.terms.now c.args.span.high c.args.span.low c.args.span.operand c.node.ensures.fit c.requires _ c.node.ensures.is
    c.in_default.not-Not c.in_default.not-Ite
