use Rattle.tree_core.specs.Replays.{after_all, opening}
use Rattle.std.proofs.Common.{false}
use Rattle.tree_core.proofs.Histories.{exactly_one, core_of, held_by_claim, refused_stays}
use Rattle.tree_core.proofs.laws.every_list_of_events.Goals as goal

pub returns-clause-exactly_one : goal.returns-clause-exactly_one
returns-clause-exactly_one g c = exactly_one g.R.Cover.covers g.R.Cover.by_nodes

pub returns-clause-partition : goal.returns-clause-partition
returns-clause-partition g c = λ most root events fit. (core_of g.R.Cover.covers g.R.Cover.by_nodes most root events fit).3.partition

pub returns-clause-replays : goal.returns-clause-replays
returns-clause-replays g c = λ most root events fit. (core_of g.R.Cover.covers g.R.Cover.by_nodes most root events fit).3.replays

pub returns-clause-held : goal.returns-clause-held
returns-clause-held g c = λ most root events node by. held_by_claim (after_all g.R.Cover.by_nodes most (opening root false) events) node by

pub returns-clause-refused : goal.returns-clause-refused
returns-clause-refused g c = refused_stays g.R.Cover.by_nodes
