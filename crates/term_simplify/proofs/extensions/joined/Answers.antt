use Rattle.term_simplify.proofs.ExtensionPlans.{bits_on_top, join_fits, joined_plain, room_above}
use Rattle.term_simplify.proofs.Reading.{has_term}
use Rattle.term_simplify.proofs.extensions.joined.Goals as goal

pub node-requires : goal.node-requires
node-requires c = has_term c.args.terms.now c.args.high c.requires.0

pub join-requires : goal.join-requires
join-requires c =
    join_fits c.args.terms.now c.node.ensures.fit c.args.high c.args.low c.requires _ _ _ c.in-Extend.ensures.is

pub stacked-requires : goal.stacked-requires
stacked-requires c =
    room_above c.args.terms.now c.node.ensures.fit c.args.high c.args.low c.requires _ _ _ c.in-Extend.ensures.is

pub returns-in-Extend-clause-makes : goal.returns-in-Extend-clause-makes
returns-in-Extend-clause-makes c =
    bits_on_top c.args.terms.now c.node.ensures.fit c.args.high c.args.low c.requires _ _ _ c.in-Extend.ensures.is
    c.join.result c.stacked.result c.stacked.ensures c.join.ensures.makes

pub returns-in_default-clause-makes : goal.returns-in_default-clause-makes
returns-in_default-clause-makes c =
    c.alone.ensures c.args.terms.now _
    (joined_plain c.args.terms.now c.node.ensures.fit c.args.high c.args.low c.requires c.node.result c.join-in_default.result
    c.node.ensures.is c.in_default.not-Extend c.join-in_default.ensures.makes)
