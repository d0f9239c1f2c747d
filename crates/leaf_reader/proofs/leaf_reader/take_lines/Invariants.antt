use Rattle.std.proofs.Common.{length}
use Rattle.leaf_reader.specs.ReadingState.{reading_of}
use Rattle.leaf_reader.proofs.Loop.{HasRead}
use Rattle.leaf_reader.proofs.leaf_reader.take_lines.Given as goal

abbrev pub invariant-lines : goal.invariant-lines
invariant-lines l = HasRead l.fn.text (reading_of l.reading) l.lines l.rest

abbrev pub decreases-lines : goal.decreases-lines
decreases-lines l = length l.rest
