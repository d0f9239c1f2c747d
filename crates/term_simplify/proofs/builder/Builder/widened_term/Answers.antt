use Rattle.std.proofs.Common.{false}
use Rattle.term_simplify.proofs.OffsetReading.{further_stands}
use Rattle.term_simplify.proofs.builder.Builder.widened_term.Goals as goal

pub further-requires-clause-room : goal.further-requires-clause-room
further-requires-clause-room c = λ some. (c.requires.some, c.requires.room)

pub returns-clause-ok : goal.returns-clause-ok
returns-clause-ok c =
    further_stands c.args.self.now c.further.new.self c.args.by false c.args.id c.further.result c.further.ensures.there c.further.ensures.tree
