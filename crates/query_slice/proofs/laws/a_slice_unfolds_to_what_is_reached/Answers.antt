use Rattle.query_slice.proofs.SliceTrees.{slice_of_trees}
use Rattle.query_slice.proofs.laws.a_slice_unfolds_to_what_is_reached.Goals as goal

pub returns : goal.returns
returns c = slice_of_trees
