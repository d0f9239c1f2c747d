use Rattle.leaf_reader.specs.ReadingState.{reading_of}
use Rattle.leaf_reader.proofs.Loop.{none_when_closed}
use Rattle.leaf_reader.proofs.leaf_reading.LeafReading.take_line.Goals as goal

pub returns-in-Closed : goal.returns-in-Closed
returns-in-Closed c = none_when_closed (reading_of c.args.self.now) c.args.text.now c.in-Closed.is
