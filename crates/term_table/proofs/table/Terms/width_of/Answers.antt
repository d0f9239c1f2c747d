use Rattle.std.proofs.Common.{◌<◌, length}
use Rattle.term_table.specs.Entries.{nodes_of}
use Rattle.term_table.proofs.Keeping.{kept_width_in_bounds}
use Rattle.term_table.proofs.table.Terms.width_of.Goals as goal

pub returns-clause-not_empty : goal.returns-clause-not_empty
returns-clause-not_empty c =
    let there : c.args.id < length (nodes_of c.self.inside.entries) = rw (← c.self.view_is) at c.requires in
    (kept_width_in_bounds _ _ _ _ c.self.invariant.0.all_fit c.self.invariant.1 there c.entry_at.ensures).0

pub returns-clause-at_most_64 : goal.returns-clause-at_most_64
returns-clause-at_most_64 c =
    let there : c.args.id < length (nodes_of c.self.inside.entries) = rw (← c.self.view_is) at c.requires in
    (kept_width_in_bounds _ _ _ _ c.self.invariant.0.all_fit c.self.invariant.1 there c.entry_at.ensures).1
