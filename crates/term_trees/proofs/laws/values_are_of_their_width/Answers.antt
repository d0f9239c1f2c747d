use Rattle.term_trees.proofs.Ranges.{in_range}
use Rattle.term_trees.proofs.laws.values_are_of_their_width.Goals as goal

pub returns : goal.returns
returns c inputs input tree bytes term = in_range inputs input bytes tree term
