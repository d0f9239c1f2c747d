use Rattle.std.proofs.Common.{length}
use Rattle.text_parts.specs.Items.{step}
use Rattle.leaf_reader.proofs.ItemLoops.{SoFar}
use Rattle.leaf_reader.proofs.lists.take_path.Given as goal

abbrev pub invariant-steps : goal.invariant-steps
invariant-steps l = SoFar step l.fn.text l.path.items l.rest

abbrev pub decreases-steps : goal.decreases-steps
decreases-steps l = length l.rest
