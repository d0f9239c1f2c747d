use Rattle.term_simplify.proofs.Reading.{operand, extended_narrower, unextended_signs, extended_by_signs, extended_by_zeros}
use Rattle.term_simplify.proofs.plan.under_signs.Goals as goal

pub returns-then-signed-clause-tree : goal.returns-then-signed-clause-tree
returns-then-signed-clause-tree c = extended_by_signs c.args.terms.now c.args.id _ _ _
    c.node.ensures.fit c.in-Extend.ensures.is c.if-signed.true

pub returns-else-signed-clause-tree : goal.returns-else-signed-clause-tree
returns-else-signed-clause-tree c = extended_by_zeros c.args.terms.now c.args.id _ _ _
    c.node.ensures.fit c.in-Extend.ensures.is c.if-signed.false

pub returns-then-signed-clause-there : goal.returns-then-signed-clause-there
returns-then-signed-clause-there c =
    (operand c.args.terms.now c.args.id _ _ c.node.ensures.fit c.in-Extend.ensures.is
    (c.node.ensures.fit.all_fit c.args.id _ c.in-Extend.ensures.is).0).there

pub returns-then-signed-clause-narrower : goal.returns-then-signed-clause-narrower
returns-then-signed-clause-narrower c = extended_narrower c.args.terms.now c.args.id _ _ _ c.node.ensures.fit c.in-Extend.ensures.is

pub returns-in_default-clause-tree : goal.returns-in_default-clause-tree
returns-in_default-clause-tree c = unextended_signs c.args.terms.now c.args.id c.node.result
    c.node.ensures.fit c.node.ensures.is c.in_default.not-Extend
