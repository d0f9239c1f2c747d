use Rattle.leaf_reader.specs.ReadingState.{reading_of}
use Rattle.leaf_reader.proofs.NextLines.{past_terms}
use Rattle.leaf_reader.proofs.leaf_reading.LeafReading.is_wide.Goals as goal

pub returns-else-id-len : goal.returns-else-id-len
returns-else-id-len c =
    past_terms (reading_of c.args.self.now) c.args.id c.args.width c.len.result c.len.ensures c.if-id-len.false c.requires
