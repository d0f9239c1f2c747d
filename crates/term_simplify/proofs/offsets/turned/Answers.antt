use Rattle.term_simplify.proofs.Reading.{has_second_term, has_term}
use Rattle.term_simplify.proofs.offsets.turned.Goals as goal

pub number_at-requires : goal.number_at-requires
number_at-requires c = has_term c.args.terms.now c.args.a c.requires.0

pub under_negative-requires : goal.under_negative-requires
under_negative-requires c = has_term c.args.terms.now c.args.a c.requires.0

pub under_negative-requires-in-Add-None : goal.under_negative-requires-in-Add-None
under_negative-requires-in-Add-None c = has_second_term c.args.terms.now c.args.a c.args.b c.requires.0 c.requires.1

pub under_negative-requires-in-Sub-default : goal.under_negative-requires-in-Sub-default
under_negative-requires-in-Sub-default c = has_second_term c.args.terms.now c.args.a c.args.b c.requires.0 c.requires.1
