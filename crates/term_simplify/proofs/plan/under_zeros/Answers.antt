use Rattle.term_simplify.proofs.Reading.{operand, extended_below_64, extended_narrower, not_extended, extended_signed, extended_zeros}
use Rattle.term_simplify.proofs.plan.under_zeros.Goals as goal

pub returns-then-signed-clause-tree : goal.returns-then-signed-clause-tree
returns-then-signed-clause-tree c = extended_signed c.args.terms.now c.args.id _ _ _
    c.node.ensures.fit c.in-Extend.ensures.is c.if-signed.true

pub returns-else-signed-clause-tree : goal.returns-else-signed-clause-tree
returns-else-signed-clause-tree c = extended_zeros c.args.terms.now c.args.id _ _ _
    c.node.ensures.fit c.in-Extend.ensures.is c.if-signed.false

pub returns-else-signed-clause-there : goal.returns-else-signed-clause-there
returns-else-signed-clause-there c =
    (operand c.args.terms.now c.args.id _ _ c.node.ensures.fit c.in-Extend.ensures.is
    (c.node.ensures.fit.all_fit c.args.id _ c.in-Extend.ensures.is).0).there

pub returns-else-signed-clause-below_64 : goal.returns-else-signed-clause-below_64
returns-else-signed-clause-below_64 c = extended_below_64 c.args.terms.now c.args.id _ _ _ c.node.ensures.fit c.in-Extend.ensures.is

pub returns-else-signed-clause-narrower : goal.returns-else-signed-clause-narrower
returns-else-signed-clause-narrower c = extended_narrower c.args.terms.now c.args.id _ _ _ c.node.ensures.fit c.in-Extend.ensures.is

pub returns-in_default-clause-tree : goal.returns-in_default-clause-tree
returns-in_default-clause-tree c = not_extended c.args.terms.now c.args.id c.node.result
    c.node.ensures.fit c.node.ensures.is c.in_default.not-Extend
