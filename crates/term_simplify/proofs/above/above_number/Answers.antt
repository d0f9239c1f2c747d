use Rattle.std.proofs.Common.{◌∙◌, sym}
use Rattle.term_simplify.proofs.Reading.{has_second_term, has_term}
use Rattle.term_simplify.proofs.Telling.{number_at_second}
use Rattle.term_simplify.proofs.above.above_number.Goals as goal

pub number_at-requires : goal.number_at-requires
number_at-requires c = has_term c.args.terms.now c.args.a c.requires.0

pub number_at-requires-2 : goal.number_at-requires-2
number_at-requires-2 c = has_second_term c.args.terms.now c.args.a c.args.b c.requires.0 c.requires.1

pub interval_above-requires-clause-there : goal.interval_above-requires-clause-there
interval_above-requires-clause-there c = has_second_term c.args.terms.now c.args.a c.args.b c.requires.0 c.requires.1

pub interval_above-requires-clause-number : goal.interval_above-requires-clause-number
interval_above-requires-clause-number c =
    (number_at_second c.args.terms.now c.number_at.ensures.fit c.args.b c.args.a c.in-Some-None.x
    (has_second_term c.args.terms.now c.args.a c.args.b c.requires.0 c.requires.1) (has_term c.args.terms.now c.args.a c.requires.0) (sym c.requires.1)
    (sym c.number_at.ensures.number ∙ c.in-Some-None.is-0)).number
