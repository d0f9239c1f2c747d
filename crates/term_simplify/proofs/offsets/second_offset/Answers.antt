use Rattle.term_simplify.proofs.OffsetReading.{numbered, of_words}
use Rattle.term_simplify.proofs.offsets.second_offset.Goals as goal

pub returns-in-Add-clause-some : goal.returns-in-Add-clause-some
returns-in-Add-clause-some c = λ g w is number.
    numbered g w c.args.o.taken c.args.o c.apply.result _ is c.apply.ensures (of_words w c.args.op c.args.o.number c.args.y is.number number)
