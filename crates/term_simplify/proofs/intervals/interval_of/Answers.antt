use Rattle.std.proofs.Common.{◌∙◌, ap}
use Rattle.term_simplify.specs.Intervals.{interval_under}
use Rattle.term_simplify.proofs.IntervalRules.{of_extend, of_other}
use Rattle.term_simplify.proofs.Telling.{come_here, come_on}
use Rattle.term_simplify.proofs.intervals.interval_of.Goals as goal

pub interval_under-requires : goal.interval_under-requires
interval_under-requires c =
    (come_on c.args.terms.now c.node.ensures.fit c.args.e c.args.e c.in-Some.inner (come_here c.args.terms.now c.args.e c.requires)
    c.in-Some.ensures.is c.in-Some.ensures.there).is_equality

pub returns-in-Some-clause-is : goal.returns-in-Some-clause-is
returns-in-Some-clause-is c =
    c.interval_under.ensures.is ∙ ap interval_under c.in-Some.ensures.is
    ∙ of_extend c.args.terms.now c.args.e.term c.node.ensures.fit c.args.e.number _ _ _ c.in-Extend.ensures.is

pub returns-in_default-clause-is : goal.returns-in_default-clause-is
returns-in_default-clause-is c =
    c.interval_under-in_default.ensures.is
    ∙ of_other c.args.terms.now c.args.e.term c.node.ensures.fit c.args.e.number c.node.result c.node.ensures.is c.in_default.not-Extend
