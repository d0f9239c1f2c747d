use Rattle.free_nodes.proofs.Counts.{none_free_where_none}
use Rattle.free_nodes.proofs.laws.none_counted_none_free.Goals as goal

pub returns : goal.returns
returns c = none_free_where_none
