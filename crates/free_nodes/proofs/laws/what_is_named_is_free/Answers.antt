use Rattle.free_nodes.proofs.Counts.{free_where_named, there_where_named}
use Rattle.free_nodes.proofs.laws.what_is_named_is_free.Goals as goal

pub returns : goal.returns
returns c = record { there = there_where_named; free = free_where_named }
