use Rattle.term_simplify.proofs.Reading.{number_read}
use Rattle.term_simplify.proofs.plan.number_at.Goals as goal

pub number_of-requires : goal.number_of-requires
number_of-requires c = (c.args.terms.now.inputs, _, c.node.ensures.fit.all_fit c.args.id c.node.result c.node.ensures.is)

pub returns-clause-number : goal.returns-clause-number
returns-clause-number c = number_read c.args.terms.now c.args.id c.node.result c.number_of.result
    c.node.ensures.fit c.node.ensures.is c.number_of.ensures
