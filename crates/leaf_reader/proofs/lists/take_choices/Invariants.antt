use Rattle.std.proofs.Common.{length}
use Rattle.text_parts.specs.Items.{choice}
use Rattle.leaf_reader.proofs.ItemLoops.{SoFar}
use Rattle.leaf_reader.proofs.lists.take_choices.Given as goal

abbrev pub invariant-choices : goal.invariant-choices
invariant-choices l = SoFar choice l.fn.text l.choices.items l.rest

abbrev pub decreases-choices : goal.decreases-choices
decreases-choices l = length l.rest
