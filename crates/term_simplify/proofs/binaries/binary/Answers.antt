use Rattle.term_simplify.specs.Plain.{plain_binary}
use Rattle.term_simplify.proofs.Reading.{has_term, has_second_term, as_wide}
use Rattle.term_simplify.proofs.binaries.binary.Goals as goal

pub binary_by-plain-requires : goal.binary_by-plain-requires
binary_by-plain-requires c = as_wide c.args.terms.now c.args.a c.args.b _ _ c.number_at.ensures.number
    c.number_at-2.ensures.number c.requires.1

pub returns-clause-makes : goal.returns-clause-makes
unfolding plain_binary
returns-clause-makes c =
    let plain = c.binary_by-plain.ensures c.args.terms.now (has_term c.args.terms.now c.args.a c.requires.0) (has_second_term c.args.terms.now c.args.a c.args.b c.requires.0 c.requires.1) c.requires in
    c.masked-2.ensures _ (c.masked.ensures _ (rw (← c.number_at.ensures.number, ← c.number_at-2.ensures.number) plain))
